-- How the lines of a link begin, by how the scenario names the link: by its sink alone, or by its own number too. The lines are
-- this project's own.
use Rattle.transcript_text.specs.SinkLines.{Label, plain, on_link}
use Rattle.transcript_text.specs.declared.label.Label.{Label as Named}
use Rattle.transcript_text.specs.declared.label.Label.TheVariants.{Plain, OnLink}

abbrev pub label_of : Named → Label
label_of (Plain sink) = plain sink
label_of (OnLink sink link) = on_link sink link
