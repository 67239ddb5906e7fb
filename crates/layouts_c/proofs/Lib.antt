mod Parted
mod Streams
