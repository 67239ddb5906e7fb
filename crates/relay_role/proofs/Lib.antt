mod Offering
mod Passing
