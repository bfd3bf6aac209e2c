mod Growing
mod Entries
mod Spoken
mod Words
