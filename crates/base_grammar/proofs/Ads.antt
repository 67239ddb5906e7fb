-- What is read as an AD list is one, and what is one is read so.
use Rattle.base_grammar.proofs.Prelude.{◌≡◌, ℕ, List, [], ◌∷◌, ◌++◌, length, take, Result, Ok, Err, refl, sym, ap, ◌∙◌, take_at, append-nil, IsOctets, LtvBad, Ltv, IsBad, StandsZero, IsLtvList, AreLtvs, ltvs_of, ltvs_in, list_read, read_list, arith, result_unwrap_or, IsEnd, IsAdList, IsAdShort, ads_read, ads_of, ads_in}
use Rattle.ltv_codec.specs.declared.fault.LtvBad.TheVariants.{ZeroLength, Short}
use Rattle.ltv_codec.proofs.Citable.{read_bad, bad_read}

ok_same : (xs ys : List Ltv) → (let r : List Ltv → Result (List Ltv) ℕ = λ zs. Ok zs in r xs ≡ r ys) → xs ≡ ys
ok_same xs ys e = cc

ok_is_ok : (xs : List Ltv) (place : ℕ) → (let r : Result (List Ltv) ℕ = Ok xs in r ≡ Err place) → ⊥
ok_is_ok xs place e = cc

err_is_err : (ads : List Ltv) (place : ℕ) → (let r : Result (List Ltv) ℕ = Err place in r ≡ Ok ads) → ⊥
err_is_err ads place e = cc

err_same : (a b : ℕ) → (let r : ℕ → Result (List Ltv) ℕ = λ p. Err p in r a ≡ r b) → a ≡ b
err_same a b e = cc

-- the octets up to a length of 0 are an LTV list
pub record Listed (place : ℕ) (octets : List ℕ) : Type 0 where
  pub ltvs : List Ltv
  pub left : List ℕ
  pub list : IsLtvList ltvs (take place octets)
  pub ends : IsEnd left
  pub parts : octets ≡ take place octets ++ left

stands_end : (left : List ℕ) → StandsZero left → IsEnd left
stands_end left h = grind arith

pub listed_at : (place : ℕ) (octets : List ℕ) → IsBad (ZeroLength place) octets → Listed place octets
listed_at place octets (ltvs, prefix, rest, l, there, stands, parts) =
    let prefix_is : take place octets ≡ prefix = ap (take place) parts ∙ take_at prefix rest place there in
    record { ltvs = ltvs; left = rest; list = rw prefix_is l; ends = stands_end rest stands; parts = rw prefix_is parts }

pub listed_read : (place : ℕ) (octets : List ℕ) → IsBad (ZeroLength place) octets → AreLtvs (take place octets)
listed_read place octets h = let l = listed_at place octets h in record { ltvs = l.ltvs; list = l.list }

pub listed_list : (place : ℕ) (octets : List ℕ) → IsBad (ZeroLength place) octets → IsAdList (ltvs_in (take place octets)) octets
listed_list place octets h =
    let l = listed_at place octets h in
    let same : ltvs_in (take place octets) ≡ l.ltvs = ap (λ (r : Result (List Ltv) LtvBad). result_unwrap_or r []) (list_read l.ltvs (take place octets) l.list) in
    rw same (record { listed = take place octets; left = l.left; list = l.list; ends = l.ends; parts = l.parts })

whole_list : (ads : List Ltv) (octets : List ℕ) → IsLtvList ads octets → IsAdList ads octets
whole_list ads octets l = record { listed = octets; left = []; list = l; ends = tt; parts = sym (append-nil octets) }

list_by : (ads : List Ltv) (octets : List ℕ) (read : Result (List Ltv) LtvBad) → IsOctets octets → ltvs_of octets ≡ read → ads_read octets read ≡ Ok ads → IsAdList ads octets
list_by ads octets (Ok ltvs) fits e h = rw (← ok_same ltvs ads h) (whole_list ltvs octets (read_list ltvs octets fits e))
list_by ads octets (Err (ZeroLength place)) fits e h =
    rw (← ok_same (ltvs_in (take place octets)) ads h) (listed_list place octets (read_bad (ZeroLength place) octets fits e))
list_by ads octets (Err (Short place)) fits e h = absurd (err_is_err ads place h)

pub read_ads : (ads : List Ltv) (octets : List ℕ) → IsOctets octets → ads_of octets ≡ Ok ads → IsAdList ads octets
read_ads ads octets fits h = list_by ads octets (ltvs_of octets) fits refl h

short_by : (place : ℕ) (octets : List ℕ) (read : Result (List Ltv) LtvBad) → IsOctets octets → ltvs_of octets ≡ read → ads_read octets read ≡ Err place → IsAdShort place octets
short_by place octets (Err (Short at)) fits e h = rw (← err_same at place h) (read_bad (Short at) octets fits e)
short_by place octets read fits e h = search (ok_is_ok, ltvs_in, take, err_same, read_bad)

pub read_short : (place : ℕ) (octets : List ℕ) → IsOctets octets → ads_of octets ≡ Err place → IsAdShort place octets
read_short place octets fits h = short_by place octets (ltvs_of octets) fits refl h

pub short_read : (place : ℕ) (octets : List ℕ) → IsAdShort place octets → ads_of octets ≡ Err place
short_read place octets h = ap (ads_read octets) (bad_read (Short place) octets h)

ads_read_at : (ads : List Ltv) (octets prefix : List ℕ) (ignored : List ℕ) → IsLtvList ads prefix → octets ≡ prefix ++ 0 ∷ ignored → ads_of octets ≡ Ok ads
ads_read_at ads octets prefix ignored l parts =
    let bad : IsBad (ZeroLength (length prefix)) octets = (ads, prefix, 0 ∷ ignored, l, refl, refl, parts) in
    let prefix_is : take (length prefix) octets ≡ prefix = ap (take (length prefix)) parts ∙ take_at prefix (0 ∷ ignored) (length prefix) refl in
    ap (ads_read octets) (bad_read (ZeroLength (length prefix)) octets bad) ∙ ap (λ (os : List ℕ). Ok (ltvs_in os)) prefix_is
    ∙ ap (λ (r : Result (List Ltv) LtvBad). Ok (result_unwrap_or r [])) (list_read ads prefix l)

pub ads_read_so : (ads : List Ltv) (octets : List ℕ) → IsAdList ads octets → ads_of octets ≡ Ok ads
ads_read_so ads octets l = grind (arith, append-nil, ltvs_of, list_read, ads_read_at)

-- octets whose first bad length octet is 0 are a list
pub ends_early : (place : ℕ) (octets : List ℕ) → IsBad (ZeroLength place) octets → IsAdList (ads_in octets) octets
ends_early place octets h = grind (arith, bad_read (ZeroLength place) octets h, listed_list place octets h)
