mod Keeping
mod Proposing
mod Still
