mod Kept
mod Parts
mod PduLengths
