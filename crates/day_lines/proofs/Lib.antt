mod Backs
mod Places
mod Tokens
mod Values
