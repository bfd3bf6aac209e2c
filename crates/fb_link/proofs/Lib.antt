mod Ports
mod Sending
mod Taking
