-- Sectors in a list of bytes: what `sector` reads and `written` writes.
use Rattle.std.proofs.Common.{◌≡◌, ℕ, zero, suc, ◌+◌, ◌*◌, ◌/◌, ◌%◌, ◌<◌, ◌≤◌, ◌⊎◌, List, [], ◌∷◌, ◌++◌, map, length, get_or, take, drop, sym, refl, ap, ◌∙◌, ⊎_elim, mod-lt, mod-eq_of_lt, arith, lit<, length-append, length-drop, length-take}
use borrow.Rule.Slice.PartMut.{put_mid}
use lib.ListN.{length-map}
use Rattle.std.specs.List.{take-map}
use Rattle.std.proofs.lemmas.List.{drop_at, take_at, drop-take, drop-drop, drop-map}
use Rattle.std.proofs.lemmas.Slice.{take-put_mid_below, drop-put_mid}
use Rattle.disk.specs.Meaning.{Whole}
use Rattle.disk.specs.Sectors.{count, sector, written}

-- a byte is its own remainder
pub bytes_low : (x : List ℕ) → ((i : ℕ) → get_or x i 0 < 256) → map (λ b. b % 256) x ≡ x
bytes_low [] h = refl
bytes_low (b ∷ x) h =
    cc (mod-eq_of_lt (h 0), bytes_low x (λ i. h (suc i)))

low-bytes : (x : List ℕ) (i : ℕ) → get_or (map (λ b. b % 256) x) i 0 < 256
low-bytes [] i = lit< tt
low-bytes (b ∷ x) zero = mod-lt b (lit< tt)
low-bytes (b ∷ x) (suc i) = low-bytes x i

pub room : (l n : ℕ) → n < l / 1024 → 1024 * n + 1024 ≤ l
room l n h = omega arith

pub whole-sector : (bytes : List ℕ) (n : ℕ) → n < count bytes → Whole (sector bytes n)
unfolding sector
whole-sector bytes n h =
    let r = room (length bytes) n h in
    record {
      long = simp (length-map, length-take, length-drop) (omega arith);
      bytes = low-bytes (take 1024 (drop (1024 * n) bytes));
    }

-- a sector is read as it lies
pub sector-is : (bytes : List ℕ) (n : ℕ) → ((i : ℕ) → get_or bytes i 0 < 256) → take 1024 (drop (1024 * n) bytes) ≡ sector bytes n
unfolding sector
sector-is bytes n h = ap (λ l. take 1024 (drop (1024 * n) l)) (sym (bytes_low bytes h)) ∙ simp (drop-map, take-map) refl

-- a part of a slice that is written is a sector that is written
pub written-part : (xs ys : List ℕ) (n m : ℕ) → m ≡ 1024 → put_mid (1024 * n) m xs ys ≡ written xs n ys
unfolding written
written-part xs ys n m is =
    ap (λ k. take (1024 * n) xs ++ (ys ++ drop k (drop (1024 * n) xs))) is
    ∙ ap (λ t. take (1024 * n) xs ++ (ys ++ t)) (drop-drop 1024 (1024 * n) xs)

module _ (xs ys : List ℕ) (n : ℕ) (inside : n < count xs) (whole : Whole ys) where
  fits : 1024 * n + 1024 ≤ length xs
  fits = room (length xs) n inside

  -- the same as a part that is written
  part : written xs n ys ≡ put_mid (1024 * n) 1024 xs ys
  part = sym (written-part xs ys n 1024 refl)

  front : length (take (1024 * n) xs) ≡ 1024 * n
  front = let f = fits in simp length-take (omega arith)

  pub written-here : sector (written xs n ys) n ≡ ys
  unfolding sector written
  written-here =
      let d = drop_at (take (1024 * n) xs) (ys ++ drop (1024 * n + 1024) xs) (1024 * n) front in
      let t = take_at ys (drop (1024 * n + 1024) xs) 1024 whole.long in
      ap (λ l. map (λ b. b % 256) (take 1024 l)) d ∙ (ap (map (λ b. b % 256)) t ∙ bytes_low ys whole.bytes)

  pub written-length : length (written xs n ys) ≡ length xs
  unfolding written
  written-length =
      let f = fits in
      let w = whole.long in
      let t = front in
      simp (length-append, length-drop) (omega arith)

  below : (k : ℕ) → k < n → sector (written xs n ys) k ≡ sector xs k
  unfolding sector
  below k h =
      let f = fits in
      let e = drop-take (1024 * k) 1024 (written xs n ys) in
      let g = drop-take (1024 * k) 1024 xs in
      let t = ap (take (1024 * k + 1024)) part ∙ take-put_mid_below (1024 * n) 1024 xs ys (1024 * k + 1024) (omega arith) (omega arith) in
      let s : take 1024 (drop (1024 * k) (written xs n ys)) ≡ take 1024 (drop (1024 * k) xs) = cc in
      ap (map (λ b. b % 256)) s

  after : (a : ℕ) → 1024 * n + 1024 ≤ a → drop a (written xs n ys) ≡ drop a xs
  after a h =
      let f = fits in
      ap (drop a) part ∙ drop-put_mid (1024 * n) 1024 xs ys a (omega arith) (omega arith) whole.long

  above : (k : ℕ) → n < k → sector (written xs n ys) k ≡ sector xs k
  unfolding sector
  above k h = ap (λ l. map (λ b. b % 256) (take 1024 l)) (after (1024 * k) (omega arith))

  pub written-others : (k : ℕ) → (k ≡ n → ⊥) → sector (written xs n ys) k ≡ sector xs k
  written-others k ne = ⊎_elim (below k) (above k) (let a : (k < n) ⊎ (n < k) = grind arith in a)

  -- what lies after the last whole sector
  pub written-tail : drop (1024 * count xs) (written xs n ys) ≡ drop (1024 * count xs) xs
  written-tail = after (1024 * count xs) (omega arith)
