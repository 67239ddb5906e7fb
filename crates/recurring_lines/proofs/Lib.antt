mod Prelude
mod FrequentLines
mod OperationLines
mod SinkWords
mod TrainLines
