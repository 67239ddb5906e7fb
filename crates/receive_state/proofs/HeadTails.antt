-- What is left to read of the head, from each of its fields on.
use Rattle.receive_state.proofs.Prelude.{◌≡◌, ℕ, List, [], Option, Result, Ok, refl, octet_in, octets_in, StateFields, code_width, ◌>>=◌, needed, field_in, arith}
use Rattle.receive_state.specs.Reading.{source_in, head_in}

-- what tells the source, and nothing behind it
abbrev pub source_of : ℕ → ℕ → List ℕ → ℕ → List ℕ → StateFields
source_of source kind address sid id =
    record { source_id = source; address_type = kind; address = address; sid = sid; broadcast_id = id; pa_sync_state = 0; encryption = 0; bad_code = []; groups = [] }

abbrev pub sourced : StateFields → List ℕ → Result (StateFields × List ℕ) ℕ
sourced s rest = Ok (s, rest)

abbrev pub from_id : List ℕ → ℕ → ℕ → List ℕ → ℕ → List ℕ → Result (StateFields × List ℕ) ℕ
from_id whole source kind address sid rest = field_in whole (octets_in 3) rest >>= λ x. sourced (source_of source kind address sid x.0) x.1

abbrev pub from_sid : List ℕ → ℕ → ℕ → List ℕ → List ℕ → Result (StateFields × List ℕ) ℕ
from_sid whole source kind address rest = field_in whole octet_in rest >>= λ x. from_id whole source kind address x.0 x.1

abbrev pub from_address : List ℕ → ℕ → ℕ → List ℕ → Result (StateFields × List ℕ) ℕ
from_address whole source kind rest = field_in whole (octets_in 6) rest >>= λ x. from_sid whole source kind x.0 x.1

abbrev pub from_kind : List ℕ → ℕ → List ℕ → Result (StateFields × List ℕ) ℕ
from_kind whole source rest = field_in whole octet_in rest >>= λ x. from_address whole source x.0 x.1

abbrev pub from_source : List ℕ → List ℕ → Result (StateFields × List ℕ) ℕ
from_source whole rest = field_in whole octet_in rest >>= λ x. from_kind whole x.0 x.1

abbrev pub from_count : List ℕ → StateFields → ℕ → ℕ → List ℕ → List ℕ → Result (StateFields × ℕ × List ℕ) ℕ
from_count whole who sync enc code rest = field_in whole octet_in rest >>= λ x. Ok (record who { pa_sync_state = sync; encryption = enc; bad_code = code }, x.0, x.1)

abbrev pub from_code : List ℕ → StateFields → ℕ → ℕ → List ℕ → Result (StateFields × ℕ × List ℕ) ℕ
from_code whole who sync enc rest = field_in whole (octets_in (code_width enc)) rest >>= λ x. from_count whole who sync enc x.0 x.1

abbrev pub from_enc : List ℕ → StateFields → ℕ → List ℕ → Result (StateFields × ℕ × List ℕ) ℕ
from_enc whole who sync rest = field_in whole octet_in rest >>= λ x. from_code whole who sync x.0 x.1

abbrev pub from_sync : List ℕ → StateFields → List ℕ → Result (StateFields × ℕ × List ℕ) ℕ
from_sync whole who rest = field_in whole octet_in rest >>= λ x. from_enc whole who x.0 x.1

pub head_is : (whole : List ℕ) → head_in whole ≡ (from_source whole whole >>= λ who. from_sync whole who.0 who.1)
unfolding head_in source_in
head_is whole = refl

pub assoc : {A B D : Type 0} (place : ℕ) (read : Option A) (f : A → Result B ℕ) (g : B → Result D ℕ) → ((needed place read >>= f) >>= g) ≡ (needed place read >>= λ x. f x >>= g)
assoc place read f g = grind arith
