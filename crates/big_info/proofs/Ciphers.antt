-- What lies behind the fields.
use Rattle.big_info.proofs.Prelude.{◌≡◌, ◌≤◌, ◌+◌, ◌-◌, ◌++◌, ℕ, List, length, take, drop, arith, ◌∙◌, sym, ap, append_assoc, length-append, length-take-le, Option, Some, None, refl, drop_all, drop_at, take_at, append-nil, drop-drop, take-put_mid, drop-put_mid, Cipher, CipherIs, put_mid}

-- what is the same behind n octets is the same behind more
pub drop_later : (n m : ℕ) (one other : List ℕ) → n ≤ m → drop n one ≡ drop n other → drop m one ≡ drop m other
drop_later n m one other h e =
    let there : n + (m - n) ≡ m = omega (arith, h) in
    let behind : (xs : List ℕ) → drop m xs ≡ drop (m - n) (drop n xs) = λ xs. ap (λ (k : ℕ). drop k xs) (sym there) ∙ sym (drop-drop (m - n) n xs) in
    behind one ∙ ap (drop (m - n)) e ∙ sym (behind other)

-- two parts, one behind the other, that are written up to the end
pub cipher_behind : (into giv gskd : List ℕ) → length into ≡ 57 → length giv ≡ 8 → length gskd ≡ 16
    → drop 33 (put_mid 41 16 (put_mid 33 8 into giv) gskd) ≡ giv ++ gskd
cipher_behind into giv gskd whole first second =
    grind (
      arith,
      length-take-le 33 into (omega (arith, whole)),
      take-put_mid 33 8 into giv 41 (omega (arith, first)) (omega (arith, whole)),
      drop-drop 16 41 (put_mid 33 8 into giv),
      drop-put_mid 33 8 into giv 57 (omega arith) (omega (arith, whole)) first,
      drop_all 57 into (omega (arith, whole)),
      append-nil gskd,
      append_assoc (take 33 into) giv gskd,
      drop_at (take 33 into) (giv ++ gskd) 33 (omega (arith, (length-take-le 33 into (omega (arith, whole))))),
    )

pub long_before : (into giv : List ℕ) → length into ≡ 57 → length giv ≡ 8 → 41 ≤ length (put_mid 33 8 into giv)
long_before into giv whole first =
    let fields : length (take 33 into) ≡ 33 = length-take-le 33 into (omega (arith, whole)) in
    omega (arith, length-append (take 33 into) (giv ++ drop 8 (drop 33 into)), length-append giv (drop 8 (drop 33 into)), fields, first)

-- octets are of one cipher alone
pub one_cipher : (one other : Option Cipher) (octets : List ℕ) → CipherIs one octets → CipherIs other octets → one ≡ other
one_cipher None None octets h k = refl
one_cipher None (Some other) octets h k = absurd (omega (arith, ap length h, ap length k.2, length-append other.giv other.gskd, k.0))
one_cipher (Some one) None octets h k = absurd (omega (arith, ap length k, ap length h.2, length-append one.giv one.gskd, h.0))
one_cipher (Some one) (Some other) octets h k = grind (arith, h.2, k.2, take_at one.giv one.gskd 8 h.0, take_at other.giv other.gskd 8 k.0, drop_at one.giv one.gskd 8 h.0, drop_at other.giv other.gskd 8 k.0)

-- a cipher has one encoding
pub one_behind : (cipher : Option Cipher) (one other : List ℕ) → CipherIs cipher one → CipherIs cipher other → one ≡ other
one_behind cipher one other h k = grind arith
