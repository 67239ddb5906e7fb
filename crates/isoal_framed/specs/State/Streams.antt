-- The stay of a receiver.
use Rattle.isoal_base.specs.Stays.{Stay}
use Rattle.isoal_framed.specs.declared.stream.Stream.{Stream}

abbrev pub stay_of : Stream → Stay
stay_of stream = record {
  info = stream.group.info;
  bis = stream.bis;
  first = stream.first;
  origin = stream.origin;
  delay = stream.delay;
}
