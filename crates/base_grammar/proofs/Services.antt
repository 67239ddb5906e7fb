-- Looking for Service Data, structure by structure.
use Rattle.base_grammar.proofs.Prelude.{◌≡◌, ℕ, ◌+◌, List, [], ◌∷◌, ◌++◌, length, Option, Some, None, refl, sym, ap, ◌∙◌, arith, option_or, same_Some, flat_map-cons, IsOctets, counted_in, counted_again, Ltv, structure, IsLtvList, AreLtvs, ltvs_in, list_in, reads, service_in, first_service, service_of}
use Rattle.ltv_codec.specs.Layout.{encoding}

-- the rest is a list in which the first Service Data is that of the whole
pub record Unfound (uuid : ℕ) (list rest : List ℕ) : Type 0 where
  pub ads : List Ltv
  pub is : IsLtvList ads rest
  pub same : first_service uuid ads ≡ first_service uuid (ltvs_in list)

pub unfound_first : (uuid : ℕ) (list : List ℕ) → IsOctets list → AreLtvs list → Unfound uuid list list
unfound_first uuid list fits good = record { ads = ltvs_in list; is = list_in list fits (reads list good); same = refl }

-- the structure at the front, and the list behind it
record Prefix (ads : List Ltv) (body after : List ℕ) : Type 0 where
  ad : Ltv
  others : List Ltv
  all : ads ≡ ad ∷ others
  body_is : body ≡ ad.kind ∷ ad.value
  is : IsLtvList others after

same_pair : (a b c d : List ℕ) → (let r : List ℕ × List ℕ → Option (List ℕ × List ℕ) = λ x. Some x in r (a, b) ≡ r (c, d)) → (a ≡ c) × (b ≡ d)
same_pair a b c d e = grind (arith, same_Some)

encoded : (ad : Ltv) (others : List Ltv) (rest : List ℕ) → IsLtvList (ad ∷ others) rest → rest ≡ length (ad.kind ∷ ad.value) ∷ ((ad.kind ∷ ad.value) ++ encoding others)
encoded ad others rest l = grind (arith, length, flat_map-cons, structure)

prefix_of : (ads : List Ltv) (rest body after : List ℕ) → IsLtvList ads rest → counted_in rest ≡ Some (body, after) → Prefix ads body after
prefix_of [] rest body after l e = grind (arith, counted_in)
prefix_of (ad ∷ others) rest body after l e =
    let read : counted_in rest ≡ Some (ad.kind ∷ ad.value, encoding others) = ap counted_in (encoded ad others rest l) ∙ counted_again (ad.kind ∷ ad.value) (encoding others) in
    let same = same_pair (ad.kind ∷ ad.value) (encoding others) body after (sym read ∙ e) in
    record { ad = ad; others = others; all = refl; body_is = sym same.0; is = record { fit = l.fit.1; encoded = sym same.1 } }

none_or : (found other : Option (List ℕ)) → found ≡ None → option_or found other ≡ other
none_or found other e = grind arith

some_or : (found other : Option (List ℕ)) (content : List ℕ) → found ≡ Some content → option_or found other ≡ Some content
some_or found other content e = grind arith

pub unfound_next : (uuid : ℕ) (list rest body after : List ℕ) → counted_in rest ≡ Some (body, after) → service_of uuid body ≡ None → Unfound uuid list rest → Unfound uuid list after
unfound_next uuid list rest body after e none u =
    let f = prefix_of u.ads rest body after u.is e in
    let here : service_in uuid f.ad ≡ None = ap (service_of uuid) (sym f.body_is) ∙ none in
    let step : first_service uuid u.ads ≡ first_service uuid f.others = ap (first_service uuid) f.all ∙ none_or (service_in uuid f.ad) (first_service uuid f.others) here in
    record { ads = f.others; is = f.is; same = sym step ∙ u.same }

pub unfound_found : (uuid : ℕ) (list rest body after content : List ℕ) → counted_in rest ≡ Some (body, after) → service_of uuid body ≡ Some content → Unfound uuid list rest
    → first_service uuid (ltvs_in list) ≡ Some content
unfound_found uuid list rest body after content e found u =
    let f = prefix_of u.ads rest body after u.is e in
    let here : service_in uuid f.ad ≡ Some content = ap (service_of uuid) (sym f.body_is) ∙ found in
    sym u.same ∙ ap (first_service uuid) f.all ∙ some_or (service_in uuid f.ad) (first_service uuid f.others) content here

pub unfound_none : (uuid : ℕ) (list rest : List ℕ) → counted_in rest ≡ None → Unfound uuid list rest → first_service uuid (ltvs_in list) ≡ None
unfound_none uuid list rest e u = sym u.same ∙ ended u.ads u.is
  where
    ended : (ads : List Ltv) → IsLtvList ads rest → first_service uuid ads ≡ None
    ended [] l = refl
    ended (ad ∷ others) l =
        let read : counted_in rest ≡ Some (ad.kind ∷ ad.value, encoding others) = ap counted_in (encoded ad others rest l) ∙ counted_again (ad.kind ∷ ad.value) (encoding others) in
        absurd cc
