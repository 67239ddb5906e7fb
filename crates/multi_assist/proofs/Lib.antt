mod Gathering
mod Places
