-- The fields of an info are cut out of its number.
use Rattle.big_info.proofs.Prelude.{◌≡◌, ◌≢◌, ◌<◌, ◌≤◌, ℕ, ◌+◌, ◌-◌, ◌*◌, ◌/◌, ◌%◌, ◌^◌, Bool, false, cond, eqb, List, [], ◌∷◌, length, take, drop, refl, sym, ◌∙◌, ap, subst, arith, Option, Some, None, Result, Ok, Err, length-append, length-drop, take_at, drop_at, mod-mul-add, div-mul-add, pow-add, sum_from, BigInfo, Cipher, BigIs, CipherIs, Encodes}
use Rattle.std.specs.Prelude.{IfOk, OnErr}
use Rattle.std.proofs.lemmas.Bool.{eq-eqb, ne_eqb}
use Rattle.big_info.specs.declared.big_fault.BigFault.{BigFault}
use Rattle.big_info.specs.declared.big_fault.BigFault.TheVariants.{Length}
use Rattle.big_info.specs.Reading.{cut, info_from, cipher_from, info_of}
use Rattle.big_info.proofs.Fields.{stacked, AllFit, widths, values, rebuilt, number-stacked, all_fit}

-- the fields of these bits, the first of which stands at this bit
abbrev cuts : ℕ → List ℕ → ℕ → List ℕ
cuts first [] number = []
cuts first (bits ∷ others) number = cut number first bits ∷ cuts (first + bits) others number

-- a digit above others
digit : (m k low value above : ℕ) → low < m → value < k → (low + m * (value + k * above)) / m % k ≡ value
digit m k low value above p q =
    let turned : low + m * (value + k * above) ≡ (value + k * above) * m + low = omega arith in
    let behind : value + k * above ≡ above * k + value = omega arith in
    ap (λ (n : ℕ). n / m % k) turned ∙ ap (λ (n : ℕ). n % k) (div-mul-add (value + k * above) m low p ∙ behind) ∙ mod-mul-add above k value q

more_below : (m k low value : ℕ) → low < m → value < k → low + m * value < m * k
more_below m k low value p q =
    let most : m * value + m ≤ m * k = mul_below m value k q in
    omega (arith, p, most)
  where
    mul_below : (a b c : ℕ) → b < c → a * b + a ≤ a * c
    mul_below a b c h = let parts : c ≡ (b + 1) + (c - (b + 1)) = omega (arith, h) in rw parts (omega arith)

cuts_are : (first : ℕ) (bits values : List ℕ) (low : ℕ) → low < 2 ^ first → AllFit bits values → cuts first bits (low + 2 ^ first * stacked bits values) ≡ values
cuts_are first [] [] low p h = refl
cuts_are first [] (x ∷ xs) low p h = absurd h
cuts_are first (b ∷ bs) [] low p h = absurd h
cuts_are first (b ∷ bs) (x ∷ xs) low p h =
    let two : 2 ^ (first + b) ≡ 2 ^ first * 2 ^ b = pow-add 2 first b in
    let next : low + 2 ^ first * x < 2 ^ (first + b) = subst (λ (n : ℕ). low + 2 ^ first * x < n) (sym two) (more_below (2 ^ first) (2 ^ b) low x p h.0) in
    let same : low + 2 ^ first * (x + 2 ^ b * stacked bs xs) ≡ (low + 2 ^ first * x) + 2 ^ (first + b) * stacked bs xs =
    spread (2 ^ first) (2 ^ b) (2 ^ (first + b)) low x (stacked bs xs) two in
    ap (λ (n : ℕ). n ∷ cuts (first + b) bs (low + 2 ^ first * (x + 2 ^ b * stacked bs xs))) (digit (2 ^ first) (2 ^ b) low x (stacked bs xs) p h.0)
    ∙ ap (λ (ns : List ℕ). x ∷ ns) (ap (cuts (first + b) bs) same ∙ cuts_are (first + b) bs xs (low + 2 ^ first * x) next h.1)
  where
    spread : (m k mk low x above : ℕ) → mk ≡ m * k → low + m * (x + k * above) ≡ (low + m * x) + mk * above
    spread m k mk low x above e = rw e (omega arith)

fields_are : (info : BigInfo) (rfu number : ℕ) (cipher : Option Cipher) → AllFit widths (values info rfu) → number ≡ stacked widths (values info rfu) → info.cipher ≡ cipher
    → info_from number cipher ≡ info
fields_are info rfu number cipher fit e c =
    let all : cuts 0 widths number ≡ values info rfu = ap (cuts 0 widths) (e ∙ omega arith) ∙ cuts_are 0 widths (values info rfu) 0 (omega arith) fit in
    ap (λ (xs : List ℕ). rebuilt xs cipher) all ∙ ap (λ (x : Option Cipher). rebuilt (values info rfu) x) (sym c)

number_is : (info : BigInfo) (rfu : ℕ) (octets : List ℕ) → Encodes info rfu octets → sum_from 0 (take 33 octets) ≡ stacked widths (values info rfu)
number_is info rfu octets s = sym s.fields ∙ number-stacked info rfu

-- the length tells whether a cipher follows
abbrev by_length : Bool → Bool → ℕ → List ℕ → Result BigInfo BigFault
by_length short long number behind = cond short (Ok (info_from number None)) (cond long (Ok (info_from number (Some (cipher_from behind)))) (Err Length))

cipher_is : (cipher : Cipher) (octets : List ℕ) → CipherIs (Some cipher) octets → cipher_from octets ≡ cipher
cipher_is cipher octets h = grind (arith, h.2, take_at cipher.giv cipher.gskd 8 h.0, drop_at cipher.giv cipher.gskd 8 h.0)

read_by : (octets : List ℕ) (info : BigInfo) (rfu : ℕ) (cipher : Option Cipher) → info.cipher ≡ cipher → CipherIs cipher (drop 33 octets) → 33 ≤ length octets
    → AllFit widths (values info rfu) → sum_from 0 (take 33 octets) ≡ stacked widths (values info rfu) → info_of octets ≡ Ok info
read_by octets info rfu None c h whole fit number =
    let long : length octets ≡ 33 = omega (arith, whole, length-drop 33 octets, ap length h) in
    ap (λ (b : Bool). by_length b (eqb (length octets) 57) (sum_from 0 (take 33 octets)) (drop 33 octets)) (eq-eqb (length octets) 33 long)
    ∙ ap (λ (x : BigInfo). Ok x) (fields_are info rfu (sum_from 0 (take 33 octets)) None fit number c)
read_by octets info rfu (Some cipher) c h whole fit number =
    let long : length octets ≡ 57 = omega (arith, whole, length-drop 33 octets, ap length h.2, length-append cipher.giv cipher.gskd, h.0, h.1) in
    let not_short : length octets ≢ 33 = λ e. omega (arith, e, long) in
    ap (λ (b : Bool). by_length b (eqb (length octets) 57) (sum_from 0 (take 33 octets)) (drop 33 octets)) (ne_eqb (length octets) 33 not_short)
    ∙ ap (λ (b : Bool). by_length false b (sum_from 0 (take 33 octets)) (drop 33 octets)) (eq-eqb (length octets) 57 long)
    ∙ ap (λ (x : Cipher). Ok (info_from (sum_from 0 (take 33 octets)) (Some x))) (cipher_is cipher (drop 33 octets) h)
    ∙ ap (λ (x : BigInfo). Ok x) (fields_are info rfu (sum_from 0 (take 33 octets)) (Some cipher) fit number c)

pub info_read : (octets : List ℕ) (info : BigInfo) (rfu : ℕ) → Encodes info rfu octets → info_of octets ≡ Ok info
info_read octets info rfu s = read_by octets info rfu info.cipher refl s.cipher s.whole (all_fit info rfu s.widths s.rfu_width) (number_is info rfu octets s)

pub is_exact : (octets : List ℕ) (result : Result BigInfo BigFault) → IfOk result (λ info. BigIs info octets) → OnErr result ((length octets ≢ 33) × (length octets ≢ 57))
    → result ≡ info_of octets
is_exact octets (Ok info) h k = sym (info_read octets info h.0 h.1)
is_exact octets (Err Length) h k = grind (arith, eqb, length, sum_from, take, drop, ne_eqb)
