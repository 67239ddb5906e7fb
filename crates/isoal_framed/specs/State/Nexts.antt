-- What comes next, as an act.
use Rattle.isoal_framed.specs.Places.{Act, carries, leaves_out, ends}
use Rattle.isoal_framed.specs.declared.next.Next.{Next}
use Rattle.isoal_framed.specs.declared.next.Next.TheVariants.{Carries, LeavesOut, Ends}

abbrev pub act_in : Next → Act
act_in (Carries count complete) = carries count complete
act_in LeavesOut = leaves_out
act_in Ends = ends
