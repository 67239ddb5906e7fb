use Rattle.std.proofs.Common.{refl}
use Rattle.transcript_text.proofs.reply.name_of.Goals as goal

pub returns-in-SourceUnknown : goal.returns-in-SourceUnknown
returns-in-SourceUnknown c = rw c.in-SourceUnknown.is refl
