mod Prelude
mod Advances
mod AirLaws
mod Ciphers
mod FramedCalls
mod Framings
mod HeardEvents
mod Histories
mod LaidEvents
mod Lent
mod Lists
mod Orders
mod Payloads
mod Refusing
mod SendersLay
mod Sending
mod Standing
pub mod Citable
