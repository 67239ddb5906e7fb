-- What a receiver makes of the PDUs of an event, one subevent behind the other.
use Rattle.group_sink.proofs.Prelude.{ℕ, ◌≡◌, ◌+◌, List, get_or, Option, None, ap, ◌∙◌, number_of, hear_where, hear_first, Receiver, add-one, BigInfo}

pub heard_more : (info : BigInfo) (event s : ℕ) (pdus : List (Option (List ℕ))) (number : Option ℕ) (receiver mid new : Receiver)
    → mid ≡ hear_first info event pdus s receiver → number ≡ number_of info event s → new ≡ hear_where number (get_or pdus s None) mid
    → new ≡ hear_first info event pdus (s + 1) receiver
heard_more info event s pdus number receiver mid new so is now =
    rw add-one (now ∙ ap (λ n. hear_where n (get_or pdus s None) mid) is ∙ ap (hear_where (number_of info event s) (get_or pdus s None)) so)
