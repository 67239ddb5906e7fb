-- What a receiver of either framing stands for and hands up, by the stay that it is on.
use Rattle.stream_c.proofs.Prelude.{◌≡◌, ◌≤◌, ◌*◌, ℕ, List, [], map, replicate, None, sym, ◌∙◌, ap, subst, ◌==◌, if◌then◌else◌, range_with_len, Call, Stay, opened, window_of, units_at_close, FramedStands, PlainStands, heard_of_window, held_by, most_held}
use Rattle.big_info.specs.Schedule.{per_event_of}
use Rattle.isoal_base.proofs.Citable.{stands_new}
use Rattle.isoal_base.specs.Hearing.{read_as}
use Rattle.isoal_framed.proofs.Citable.{new_stands}
use Rattle.isoal_framed.specs.Histories.{gained, held_of, undecided_in}
use Rattle.isoal_framed.specs.State.Windows as segments
use Rattle.isoal_unframed.specs.Histories.{heard_in, units_of}
use Rattle.isoal_unframed.specs.State.Windows as plain
use Rattle.isoal_unframed.specs.Units.{unframed}

pub plain_new : (stay : Stay) (window : plain.Window) → stay.info.framing ≡ 0
    → window ≡ record { stay = stay; event = stay.first; kept = replicate (window_of stay.info) None } → PlainStands stay [] window
plain_new stay window framing is = record {
  framing = framing;
  stay_is = ap (λ (w : plain.Window). w.stay) is;
  stands = subst (λ (w : plain.Window). plain.Stands [] w) (sym is) (stands_new (read_as unframed stay.info.max_pdu) stay);
}

pub framed_new : (stay : Stay) (window : segments.Window) → stay.info.framing ≡ 1
    → window ≡ record { stay = stay; event = stay.first; kept = replicate (window_of stay.info) None; run = None } → FramedStands stay [] window
framed_new stay window framing is = record {
  framing = framing;
  stay_is = ap (λ (w : segments.Window). w.stay) is;
  stands = subst (λ (w : segments.Window). segments.Stands [] w) (sym is) (new_stands stay);
}

-- ---- what a close hands up

pub plain_units : (stay : Stay) (calls : List Call) (window : plain.Window) → PlainStands stay calls window
    → units_of window.stay calls (opened window.stay calls) ≡ units_at_close stay calls
plain_units stay calls window is =
    ap (λ s. units_of s calls (opened s calls)) is.stay_is
    ∙ ap (λ f. if f == 0 then units_of stay calls (opened stay calls) else gained stay calls) (sym is.framing)

pub framed_units : (stay : Stay) (calls : List Call) (window : segments.Window) → FramedStands stay calls window
    → gained window.stay calls ≡ units_at_close stay calls
framed_units stay calls window is =
    ap (λ s. gained s calls) is.stay_is
    ∙ ap (λ f. if f == 0 then units_of stay calls (opened stay calls) else gained stay calls) (sym is.framing)

-- ---- what is held

pub plain_held : (stay : Stay) (calls : List Call) (window : plain.Window) → PlainStands stay calls window
    → plain.held_in_event window.stay window.kept ≡ held_by stay calls
plain_held stay calls window is =
    ap (plain.held_in_event window.stay) (is.stands.kept_is
    ∙ ap (λ event. map (heard_in window.stay calls) (range_with_len (event * window.stay.info.bn) (window_of window.stay.info)))
    is.stands.event_is)
    ∙ ap (λ s. plain.held_in_event s (heard_of_window s calls)) is.stay_is
    ∙ ap (λ f. if f == 0 then plain.held_in_event stay (heard_of_window stay calls) else held_of (undecided_in stay calls)) (sym is.framing)

pub framed_held : (stay : Stay) (calls : List Call) (window : segments.Window) → FramedStands stay calls window
    → held_of window.run ≡ held_by stay calls
framed_held stay calls window is =
    ap held_of is.stands.run
    ∙ ap (λ s. held_of (undecided_in s calls)) is.stay_is
    ∙ ap (λ f. if f == 0 then plain.held_in_event stay (heard_of_window stay calls) else held_of (undecided_in stay calls)) (sym is.framing)

pub plain_most : (stay : Stay) (calls : List Call) (window : plain.Window) (octets : ℕ) → PlainStands stay calls window
    → octets ≤ per_event_of window.stay.info * window.stay.info.max_sdu → octets ≤ most_held stay.info
plain_most stay calls window octets is bound =
    subst (λ most. octets ≤ most) (ap (λ s. per_event_of s.info * s.info.max_sdu) is.stay_is
    ∙ ap (λ f. if f == 0 then per_event_of stay.info * stay.info.max_sdu else stay.info.max_sdu) (sym is.framing)) bound

pub framed_most : (stay : Stay) (calls : List Call) (window : segments.Window) (octets : ℕ)
    → FramedStands stay calls window → octets ≤ window.stay.info.max_sdu → octets ≤ most_held stay.info
framed_most stay calls window octets is bound =
    subst (λ most. octets ≤ most) (ap (λ s. s.info.max_sdu) is.stay_is
    ∙ ap (λ f. if f == 0 then per_event_of stay.info * stay.info.max_sdu else stay.info.max_sdu) (sym is.framing)) bound
