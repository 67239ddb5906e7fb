-- What a ring keeps, and how it changes.
use Rattle.isoal_unframed.proofs.Prelude.{ℕ, zero, suc, ◌≡◌, ◌+◌, ◌-◌, ◌*◌, ◌<◌, ◌≤◌, true, cond, leb, List, [], ◌∷◌, ◌++◌, length, take, drop, set, replicate, get_or, Option, Some, None, is_some, refl, sym, ap, ◌∙◌, subst, arith, All, copy_within, take-take, take_at, drop_at, drop-drop, take-append-le, drop-append-le, length-take-le, length-append, drop_more, length-drop, drop-take, append_assoc, length-take, length-replicate, get_or-take, get_or-drop, add-mul, mul-le, Content, end, Empty, Fragment, End, count_of, Within, entry_in, kept_in, held_cells, unit_after, unit_of, held_in, IfSome, option_map, Cell}
use Rattle.std.proofs.lemmas.Slice.{drop-append-drop}
use Rattle.isoal_unframed.proofs.Places.{slot_fits}

pub length-kept : (m : ℕ) (cells : List Cell) (block : List ℕ) → length (kept_in m cells block) ≡ length cells
length-kept m [] block = refl
length-kept m (cell ∷ cells) block = ap suc (length-kept m cells (drop m block))

pub take-kept : (m n : ℕ) (cells : List Cell) (block : List ℕ) → take n (kept_in m cells block) ≡ kept_in m (take n cells) block
take-kept m (suc n) (cell ∷ cells) block = ap (λ xs. entry_in cell block ∷ xs) (take-kept m n cells (drop m block))
take-kept m n cells block = search

pub drop-kept : (m n : ℕ) (cells : List Cell) (block : List ℕ) → drop n (kept_in m cells block) ≡ kept_in m (drop n cells) (drop (n * m) block)
drop-kept m zero cells block = grind arith
drop-kept m (suc n) [] block = refl
drop-kept m (suc n) (cell ∷ cells) block =
    let more : m + n * m ≡ suc n * m = omega arith in
    drop-kept m n cells (drop m block) ∙ ap (kept_in m (drop n cells)) (drop-drop (n * m) m block ∙ ap (λ k. drop k block) more)

-- an entry is within its place
pub entry_same : (m : ℕ) (cell : Cell) (a b : List ℕ) → Within m cell → take m a ≡ take m b → entry_in cell a ≡ entry_in cell b
entry_same m Empty a b within same = refl
entry_same m (Fragment count) a b within same = grind (arith, take-take count m a within, take-take count m b within)
entry_same m (End count) a b within same = grind (arith, take-take count m a within, take-take count m b within)

pub all_more : (m : ℕ) (cell : Cell) (cells : List Cell) → All (Within m) (cell ∷ cells) → All (Within m) cells
all_more m cell cells all k d below = all (suc k) d (omega arith)

pub all_first : (m : ℕ) (cell : Cell) (cells : List Cell) → All (Within m) (cell ∷ cells) → Within m cell
all_first m cell cells all = all zero cell (omega arith)

-- blocks that are the same over the cells' places
pub kept_same : (m : ℕ) (cells : List Cell) (a b : List ℕ) → All (Within m) cells
    → take (length cells * m) a ≡ take (length cells * m) b → kept_in m cells a ≡ kept_in m cells b
kept_same m [] a b all same = refl
kept_same m (cell ∷ cells) a b all same =
    let first : m ≤ m + length cells * m = omega arith in
    let more : m + length cells * m ≡ suc (length cells) * m = omega arith in
    let both : take (m + length cells * m) a ≡ take (m + length cells * m) b = subst (λ n. take n a ≡ take n b) (sym more) same in
    let here : take m a ≡ take m b =
    sym (take-take m (m + length cells * m) a first) ∙ ap (take m) both ∙ take-take m (m + length cells * m) b first in
    let behind : take (length cells * m) (drop m a) ≡ take (length cells * m) (drop m b) =
    sym (drop-take m (length cells * m) a) ∙ ap (drop m) both ∙ drop-take m (length cells * m) b in
    ap (λ x. x ∷ kept_in m cells (drop m a)) (entry_same m cell a b (all_first m cell cells all) here)
    ∙ ap (λ xs. entry_in cell b ∷ xs) (kept_same m cells (drop m a) (drop m b) (all_more m cell cells all) behind)

-- octets moved down to `len`, behind what stands there
pub moved_prefix : (block : List ℕ) (len from count : ℕ) → len ≤ from → from + count ≤ length block
    → take (len + count) (take len block ++ take count (drop from block) ++ drop (len + count) block) ≡ take len block ++ take count (drop from block)
moved_prefix block len from count order room = grind (arith, length-take-le, length-drop, take_at, length-append)

pub moved_rest : (block : List ℕ) (len from count behind : ℕ) → len ≤ from → from + count ≤ length block → len + count ≤ behind
    → drop behind (take len block ++ take count (drop from block) ++ drop (len + count) block) ≡ drop behind block
moved_rest block len from count behind order room past =
    let prefix : length (take len block) ≡ len = length-take-le len block (omega arith) in
    let rest : length (drop from block) ≡ length block - from = length-drop from block in
    let part : length (take count (drop from block)) ≡ count = length-take-le count (drop from block) (omega arith) in
    let both : length (take len block ++ take count (drop from block)) ≡ len + count =
    length-append (take len block) (take count (drop from block)) ∙ omega arith in
    let sum : len + count + (behind - (len + count)) ≡ behind = omega arith in
    ap (λ k. drop k (take len block ++ take count (drop from block) ++ drop (len + count) block)) (sym sum)
    ∙ sym (drop-drop (behind - (len + count)) (len + count) (take len block ++ take count (drop from block) ++ drop (len + count) block))
    ∙ ap (drop (behind - (len + count))) (drop_at (take len block ++ take count (drop from block)) (drop (len + count) block) (len + count) both)
    ∙ drop-drop (behind - (len + count)) (len + count) block ∙ ap (λ k. drop k block) sum

-- a cell's part is within its place, and its place within the block
pub cell_fits : (m at : ℕ) (cells : List Cell) (cell : Cell) → All (Within m) cells → at < length cells
    → get_or cells at Empty ≡ cell → count_of cell ≤ m
cell_fits m at cells cell all below is = subst (λ c. count_of c ≤ m) is (all at Empty below)

pub place_room : (m at from count : ℕ) (cells : List Cell) (was block : List ℕ) → from ≡ at * m → at < length cells → count ≤ m
    → length was ≡ length cells * m → length block ≡ length was → from + count ≤ length block
place_room m at from count cells was block place below fits room same = grind (arith, slot_fits)

-- one fragment more is read
pub gather_more : (m most len from count part at : ℕ) (cells : List Cell) (block moved : List ℕ)
    → at < length cells → get_or cells at Empty ≡ Fragment part → count ≡ part → count ≤ m
    → len ≤ from → from + count ≤ length block → moved ≡ copy_within block from (from + count) len
    → unit_after most (take (len + count) moved) (kept_in m (drop (at + 1) cells) (drop (from + m) moved))
    ≡ unit_after most (take len block) (kept_in m (drop at cells) (drop from block))
gather_more m most len from count part at cells block moved below is_cell same fits order room copied =
    grind (arith, moved_prefix, moved_rest, drop-drop, drop_more)

-- the entry at a place
pub get-kept : (m at : ℕ) (cells : List Cell) (block : List ℕ) → at < length cells
    → get_or (kept_in m cells block) at None ≡ entry_in (get_or cells at Empty) (drop (at * m) block)
get-kept m at [] block below = absurd (omega arith)
get-kept m zero (cell ∷ cells) block below = grind arith
get-kept m (suc at) (cell ∷ cells) block below =
    let more : m + at * m ≡ suc at * m = omega arith in
    get-kept m at cells (drop m block) (omega arith)
    ∙ ap (entry_in (get_or cells at Empty)) (drop-drop (at * m) m block ∙ ap (λ k. drop k block) more)

pub empty_at : (m at : ℕ) (cells : List Cell) (block : List ℕ) → at < length cells → get_or cells at Empty ≡ Empty
    → get_or (kept_in m cells block) at None ≡ None
empty_at m at cells block below is = get-kept m at cells block below ∙ ap (λ c. entry_in c (drop (at * m) block)) is

-- the part at a place stands in the block
pub end_room : (m at count : ℕ) (cells : List Cell) (block : List ℕ) → All (Within m) cells → at < length cells
    → get_or cells at Empty ≡ End count → length block ≡ length cells * m → at * m + count ≤ length block
end_room m at count cells block all below is room =
    place_room m at (at * m) count cells block block refl below (cell_fits m at cells (End count) all below is) room refl

-- a slot whose first place has an end has the unit of that part
one_part : (most : ℕ) (part : List ℕ) (slot : List (Option Content)) (n : ℕ)
    → unit_of most (take (suc n) (Some (end part) ∷ slot)) ≡ cond (leb (length part) most) (Some part) None
one_part most part slot n = refl

pub end_first : (m most at places count : ℕ) (cells : List Cell) (block : List ℕ) → All (Within m) cells → at < length cells → 0 < places
    → get_or cells at Empty ≡ End count → length block ≡ length cells * m
    → unit_of most (take places (drop at (kept_in m cells block))) ≡ cond (leb count most) (Some (take count (drop (at * m) block))) None
end_first m most at zero count cells block all below some is room = absurd (omega arith)
end_first m most at (suc n) count cells block all below some is room =
    let fits : at * m + count ≤ length block = end_room m at count cells block all below is room in
    let long : length (take count (drop (at * m) block)) ≡ count =
    length-take-le count (drop (at * m) block) (subst (λ k. count ≤ k) (sym (length-drop (at * m) block)) (omega arith)) in
    let rest = drop (at + 1) (kept_in m cells block) in
    let first : drop at (kept_in m cells block) ≡ Some (end (take count (drop (at * m) block))) ∷ rest =
    drop_more (kept_in m cells block) at None (subst (λ k. at < k) (sym (length-kept m cells block)) below)
    ∙ ap (λ entry. entry ∷ rest) (get-kept m at cells block below ∙ ap (λ cell. entry_in cell (drop (at * m) block)) is) in
    rw first (one_part most (take count (drop (at * m) block)) rest n
    ∙ ap (λ k. cond (leb k most) (Some (take count (drop (at * m) block))) None) long)

pub kept_replicate : (m n : ℕ) (block : List ℕ) → kept_in m (replicate n Empty) block ≡ replicate n None
kept_replicate m zero block = refl
kept_replicate m (suc n) block = ap (λ xs. None ∷ xs) (kept_replicate m n (drop m block))

pub kept-append : (m : ℕ) (xs ys : List Cell) (block : List ℕ)
    → kept_in m (xs ++ ys) block ≡ kept_in m xs block ++ kept_in m ys (drop (length xs * m) block)
kept-append m [] ys block = grind arith
kept-append m (x ∷ xs) ys block =
    let more : m + length xs * m ≡ suc (length xs) * m = omega arith in
    ap (λ all. entry_in x block ∷ all) (kept-append m xs ys (drop m block)
    ∙ ap (λ b. kept_in m xs (drop m block) ++ kept_in m ys b) (drop-drop (length xs * m) m block ∙ ap (λ k. drop k block) more))

-- a part is put into a place
pub set-kept : (m at : ℕ) (cells : List Cell) (block part : List ℕ) (cell : Cell) (entry : Option Content) → All (Within m) cells
    → at < length cells → length block ≡ length cells * m → length part ≤ m → ((rest : List ℕ) → entry_in cell (part ++ rest) ≡ entry)
    → kept_in m (set cells at cell) (take (at * m) block ++ (part ++ drop (at * m + length part) block)) ≡ set (kept_in m cells block) at entry
set-kept m at [] block part cell entry all below room fits reads = absurd (omega arith)
set-kept m zero (old ∷ cells) block part cell entry all below room fits reads = grind (arith, drop-append-drop)
set-kept m (suc at) (old ∷ cells) block part cell entry all below room fits reads =
    let more : m + at * m ≡ suc at * m = omega arith in
    let long : m ≤ length (take (m + at * m) block) = subst (λ n. m ≤ n) (sym (length-take (m + at * m) block)) (omega arith) in
    let here : entry_in old (take (m + at * m) block ++ (part ++ drop (m + at * m + length part) block)) ≡ entry_in old block =
    entry_same m old (take (m + at * m) block ++ (part ++ drop (m + at * m + length part) block)) block (all_first m old cells all)
    (grind (arith, take-append-le, take-take)) in
    let sum : m + at * m + length part ≡ m + (at * m + length part) = omega arith in
    let behind : drop m (take (m + at * m) block ++ (part ++ drop (m + at * m + length part) block))
    ≡ take (at * m) (drop m block) ++ (part ++ drop (at * m + length part) (drop m block)) = grind (arith, drop-append-le, drop-take, drop-drop) in
    ap (λ k. kept_in m (old ∷ set cells at cell) (take k block ++ (part ++ drop (k + length part) block))) (sym more)
    ∙ ap (λ x. x ∷ kept_in m (set cells at cell) (drop m (take (m + at * m) block ++ (part ++ drop (m + at * m + length part) block)))) here
    ∙ ap (λ b. entry_in old block ∷ kept_in m (set cells at cell) b) behind ∙ ap (λ xs. entry_in old block ∷ xs)
    (set-kept m at cells (drop m block) part cell entry (all_more m old cells all) (omega arith) (length-drop m block ∙ omega arith) fits reads)

-- the entries of a slot, from its own cells and octets
pub slot-kept : (m first n : ℕ) (cells : List Cell) (block : List ℕ) → All (Within m) cells → first + n ≤ length cells
    → kept_in m (take n (drop first cells)) (take (n * m) (drop (first * m) block)) ≡ take n (drop first (kept_in m cells block))
slot-kept m first n cells block all within =
    grind (arith, length-drop, length-take-le, get_or-take, get_or-drop, kept_same, take-take, take-kept, drop-kept)

-- some places are emptied
pub kept_cleared : (m first n : ℕ) (cells : List Cell) (block : List ℕ) → first + n ≤ length cells
    → kept_in m (take first cells ++ (replicate n Empty ++ drop (first + n) cells)) block
    ≡ take first (kept_in m cells block) ++ (replicate n None ++ drop (first + n) (kept_in m cells block))
kept_cleared m first n cells block within =
    grind (arith, length-take-le, length-replicate, add-mul, kept-append, kept_replicate, drop-drop, drop-kept, take-kept)

-- octets in a slot's places are moved: the entries in front of it and behind it stay
pub kept_prefix : (m first : ℕ) (cells : List Cell) (a b : List ℕ) → All (Within m) cells → first ≤ length cells
    → take (first * m) a ≡ take (first * m) b → take first (kept_in m cells a) ≡ take first (kept_in m cells b)
kept_prefix m first cells a b all within same = grind (arith, length-take-le, get_or-take, take-kept, kept_same)

pub kept_behind : (m behind : ℕ) (cells : List Cell) (a b : List ℕ)
    → drop (behind * m) a ≡ drop (behind * m) b → drop behind (kept_in m cells a) ≡ drop behind (kept_in m cells b)
kept_behind m behind cells a b same = grind (arith, drop-kept)

-- the octets held, by the cells
pub held_is : (m room : ℕ) (cells : List Cell) (block : List ℕ) → All (Within m) cells → length cells * m ≤ length block
    → held_cells room cells ≡ held_in room (kept_in m cells block)
held_is m room (End count ∷ cells) block all long =
    let fits : count ≤ m = all_first m (End count) cells all in
    let more : m + length cells * m ≡ suc (length cells) * m = omega arith in
    let here : length (take count block) ≡ count = length-take-le count block (omega arith) in
    ap (λ n. cond (leb n room) n 0) (sym here)
held_is m room (Fragment count ∷ cells) block all long =
    let fits : count ≤ m = all_first m (Fragment count) cells all in
    let more : m + length cells * m ≡ suc (length cells) * m = omega arith in
    let here : length (take count block) ≡ count = length-take-le count block (omega arith) in
    let rest : length (drop m block) ≡ length block - m = length-drop m block in
    ap (λ n. cond (leb count room) (count + n) 0) (held_is m (room - count) cells (drop m block) (all_more m (Fragment count) cells all) (omega arith))
    ∙ ap (λ n. cond (leb n room) (n + held_in (room - n) (kept_in m cells (drop m block))) 0) (sym here)
held_is m room cells block all long = search (all_first, length-take-le, length-drop, all_more)

pub full_at : (m at : ℕ) (cells : List Cell) (block : List ℕ) → at < length cells → (get_or cells at Empty ≡ Empty → ⊥)
    → is_some (get_or (kept_in m cells block) at None) ≡ true
full_at m at cells block below full = grind (arith, get-kept)

pub held_slot : (m room first n : ℕ) (cells : List Cell) (block : List ℕ) → All (Within m) cells → first + n ≤ length cells
    → length block ≡ length cells * m
    → held_cells room (take n (drop first cells)) ≡ held_in room (take n (drop first (kept_in m cells block)))
held_slot m room first n cells block all within long =
    grind (arith, length-drop, length-take-le, get_or-take, get_or-drop, add-mul, mul-le, held_is, take-kept, drop-kept)

-- a slot's octets are written: what stands in front of them and behind them, and in them
slot_size : (m first n : ℕ) (cells : List Cell) (items : List ℕ) → first + n ≤ length cells → length items ≡ length cells * m
    → first * m + n * m ≤ length items
slot_size m first n cells items within size = grind (arith, add-mul first n m, mul-le (first + n) m (length cells) m within (omega arith))

pub slot_prefix : (m first n : ℕ) (cells : List Cell) (items ys block : List ℕ) → All (Within m) cells → first + n ≤ length cells
    → length items ≡ length cells * m → block ≡ take (first * m) items ++ (ys ++ drop (first * m + n * m) items)
    → take first (kept_in m cells block) ≡ take first (kept_in m cells items)
slot_prefix m first n cells items ys block all within size is = grind (arith, slot_size, kept_prefix, take_at, length-take-le)

pub slot_behind : (m first n : ℕ) (cells : List Cell) (items ys block : List ℕ) → first + n ≤ length cells
    → length items ≡ length cells * m → length ys ≡ n * m → block ≡ take (first * m) items ++ (ys ++ drop (first * m + n * m) items)
    → drop (first + n) (kept_in m cells block) ≡ drop (first + n) (kept_in m cells items)
slot_behind m first n cells items ys block within size count is =
    let room : first * m + n * m ≤ length items = slot_size m first n cells items within size in
    let sum : first * m + n * m ≡ (first + n) * m = sym (add-mul first n m) in
    let prefix : length (take (first * m) items) ≡ first * m = length-take-le (first * m) items (omega arith) in
    kept_behind m (first + n) cells block items (ap (λ k. drop k block) (sym sum)
    ∙ ap (drop (first * m + n * m)) (is ∙ sym (append_assoc (take (first * m) items) ys (drop (first * m + n * m) items)))
    ∙ drop_at (take (first * m) items ++ ys) (drop (first * m + n * m) items) (first * m + n * m)
    (length-append (take (first * m) items) ys ∙ omega arith) ∙ ap (λ k. drop k items) sum)

pub slot_octets : (m first n k : ℕ) (cells : List Cell) (items ys block : List ℕ) → first + n ≤ length cells
    → length items ≡ length cells * m → k ≤ length ys → block ≡ take (first * m) items ++ (ys ++ drop (first * m + n * m) items)
    → take k (drop (first * m) block) ≡ take k ys
slot_octets m first n k cells items ys block within size fits is = grind (arith, slot_size, drop_at, length-take-le, take-append-le)

pub option_same : (f g : ℕ → List ℕ) (limit : ℕ) (o : Option ℕ) → IfSome o (λ n. n ≤ limit) → ((n : ℕ) → n ≤ limit → f n ≡ g n)
    → option_map f o ≡ option_map g o
option_same f g limit o within same = grind arith
