-- A step of the delegator puts its notices behind those that wait on a link, and changes nothing that its assistant knows.
use Rattle.sink_history.proofs.Prelude.{ℕ, zero, suc, ◌≡◌, ◌+◌, ◌≤◌, Bool, List, [], ◌∷◌, ◌++◌, length, length-append, map, Option, refl, sym, ap, ◌∙◌, subst, append_assoc, arith, bytes_eq, if◌then◌else◌, flat_map, range_with_len, AreFounded, delivered_of, made, notices_of, view_of, waiting_of, waits_of, Notice, change, changes, handed_out, Snapshot, snapshot_of, Setup, state_at, value_at, Call, stepped, served, steps_of, Acts, Told, acts_of, delivered, language, made_all, append-nil}
use Rattle.assistant_machine.proofs.Citable.{drop_more}
use Rattle.assistant_machine.specs.Links as links
use Rattle.sink_history.specs.Steps.{IsStep, NotifiesLink}
use Rattle.sink_history.proofs.Acts.{founded}

delivered_within : (acts : Acts) → AreFounded acts → delivered_of acts ≤ length (notices_of acts)
delivered_within [] is = omega arith
delivered_within (made slot value ∷ earlier) is =
    let h : delivered_of earlier ≤ length (notices_of earlier) = delivered_within earlier is in
    subst (λ n. delivered_of earlier ≤ n) (sym (length-append (notices_of earlier) (record { slot = slot; value = value } ∷ []))) (omega (arith, h))
delivered_within (links.notified ∷ earlier) is = is.1
delivered_within (links.served slot ∷ earlier) is = delivered_within earlier is
delivered_within (links.joined ∷ earlier) is = omega arith
delivered_within (links.forged slot octets ∷ earlier) is = delivered_within earlier is

map_both : {A B : Type 0} (f : A → B) (xs ys : List A) → map f (xs ++ ys) ≡ map f xs ++ map f ys
map_both f [] ys = refl
map_both f (x ∷ xs) ys = ap (λ zs. f x ∷ zs) (map_both f xs ys)

-- a notice with the state that it tells of
abbrev told_of : Snapshot → Notice → Told
told_of now notice = record { slot = notice.slot; value = state_at now notice.slot }

made_waiting : (now : Snapshot) (notices : List Notice) (acts : Acts) → AreFounded acts
    → waiting_of (made_all now notices acts) ≡ waiting_of acts ++ map (told_of now) notices
made_waiting now [] acts is = sym (append-nil (waiting_of acts))
made_waiting now (notice ∷ notices) acts is =
    made_waiting now notices (made notice.slot (state_at now notice.slot) ∷ acts) is
    ∙ ap (λ xs. xs ++ map (told_of now) notices) (drop_more (delivered_of acts) (notices_of acts) (told_of now notice) (delivered_within acts is))
    ∙ append_assoc (waiting_of acts) (told_of now notice ∷ []) (map (told_of now) notices)

made_views : (mtu : Option ℕ) (slot : ℕ) (now : Snapshot) (notices : List Notice) (acts : Acts) → view_of (language mtu) slot (made_all now notices acts) ≡ view_of (language mtu) slot acts
made_views mtu slot now [] acts = refl
made_views mtu slot now (notice ∷ notices) acts = made_views mtu slot now notices (made notice.slot (state_at now notice.slot) ∷ acts)

made_waits : (mtu : Option ℕ) (slot : ℕ) (now : Snapshot) (notices : List Notice) (acts : Acts) → waits_of (language mtu) slot (made_all now notices acts) ≡ waits_of (language mtu) slot acts
made_waits mtu slot now [] acts = refl
made_waits mtu slot now (notice ∷ notices) acts = made_waits mtu slot now notices (made notice.slot (state_at now notice.slot) ∷ acts)

-- ---- what is delivered of it is what the delegator hands out

abbrev changes_from : Snapshot → Snapshot → ℕ → ℕ → List Notice
changes_from before now start n = flat_map (λ slot. change slot (value_at before slot) (value_at now slot)) (range_with_len start n)

one_handed : (mtu : Option ℕ) (now : Snapshot) (b : Bool) (slot : ℕ) (more : List Notice)
    → map (delivered mtu) (map (told_of now) more) ≡ map (handed_out mtu) more
    → map (delivered mtu) (map (told_of now) ((if b then [] else record { slot = slot; value = value_at now slot } ∷ []) ++ more))
    ≡ map (handed_out mtu) ((if b then [] else record { slot = slot; value = value_at now slot } ∷ []) ++ more)
one_handed mtu now b slot more is = grind (arith, value_at)

all_handed : (mtu : Option ℕ) (before now : Snapshot) (start n : ℕ)
    → map (delivered mtu) (map (told_of now) (changes_from before now start n)) ≡ map (handed_out mtu) (changes_from before now start n)
all_handed mtu before now start zero = refl
all_handed mtu before now start (suc n) =
    one_handed mtu now (bytes_eq (value_at before start) (value_at now start)) start (changes_from before now (start + 1) n) (all_handed mtu before now (start + 1) n)

told_on : (setup : Setup) (mtu : Option ℕ) (before now : Snapshot) (acts : Acts) → AreFounded acts
    → map (delivered mtu) (waiting_of (made_all now (changes setup.slots before now) acts))
    ≡ map (delivered mtu) (waiting_of acts) ++ map (handed_out mtu) (changes setup.slots before now)
told_on setup mtu before now acts is = grind (arith, map, delivered, made_waiting, changes, map_both, waiting_of, all_handed)

pub tells : (setup : Setup) (mtu : Option ℕ) (link : ℕ) (call : Call) (calls : List Call) → IsStep call → NotifiesLink setup mtu link call calls
tells setup mtu link (stepped step) calls is =
    let before : Snapshot = snapshot_of setup (steps_of calls) in
    let now : Snapshot = snapshot_of setup (steps_of (stepped step ∷ calls)) in
    let acts : Acts = acts_of setup mtu link calls in record {
      notices = told_on setup mtu before now acts (founded setup mtu link calls);
      views = λ slot. made_views mtu slot now (changes setup.slots before now) acts;
      reads = λ slot. made_waits mtu slot now (changes setup.slots before now) acts;
    }
tells setup mtu link (served at) calls is =
    let before : Snapshot = snapshot_of setup (steps_of calls) in
    let now : Snapshot = snapshot_of setup (steps_of (served at ∷ calls)) in
    let acts : Acts = acts_of setup mtu link calls in record {
      notices = told_on setup mtu before now acts (founded setup mtu link calls);
      views = λ slot. made_views mtu slot now (changes setup.slots before now) acts;
      reads = λ slot. made_waits mtu slot now (changes setup.slots before now) acts;
    }
tells setup mtu link _ calls is = absurd is
