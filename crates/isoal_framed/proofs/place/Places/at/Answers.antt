use Rattle.isoal_framed.proofs.Prelude.{◌∙◌, ap, sym, None, get_or_from_slice_get, read_as, segmented, entry_in, get_or-map}
use Rattle.std.specs.Option.{option_copied}
use Rattle.isoal_framed.proofs.place.Places.at.Goals as goal

pub returns-clause-kept : goal.returns-clause-kept
returns-clause-kept c = ap (read_as segmented c.args.self.now.max_pdu) c.pdu.ensures ∙ ap (entry_in c.args.self.now.max_pdu) (sym (get_or_from_slice_get c.args.self.now.ring.items c.args.index c.unwrap.result.now c.unwrap.result.now (sym c.get.ensures ∙ ap option_copied c.unwrap.ensures))) ∙ sym (get_or-map (entry_in c.args.self.now.max_pdu) c.args.self.now.ring.items c.args.index c.unwrap.result.now None c.requires)
