-- A file's first sector.
use Rattle.std.proofs.Common.{◌≡◌, ℕ, suc, ◌+◌, ◌*◌, ◌<◌, ◌≤◌, Bool, true, ◌&&◌, eqb, ltb, List, [], ◌∷◌, ◌++◌, length, get_or, take, drop, Ok, sym, refl, ap, ◌∙◌, append_assoc, arith}
use Rattle.std.specs.List.{list_all, enumerate_from}
use Rattle.std.proofs.lemmas.Bool.Decides.{nat_tests}
use Rattle.std.proofs.lemmas.Bool.{eq-eqb}
use Rattle.layout.specs.declared.header.Header.{Header}
use Rattle.numbers.specs.Sectors.{address, as_due, due_from}
use Rattle.std.proofs.lemmas.List.{length-append, length-map, length-take-le, get_or-map, map_more, drop-map, take_all, length-drop}
use Rattle.numbers.specs.declared.sector.Address.{Address}
use Rattle.layout.specs.Words.{Contents, word_size, word, stored, stored_all, part, written}
use Rattle.numbers.specs.Names.{name_size}
use Rattle.numbers.specs.Lengths.{most_tables, near_sectors, length_of, good_end, last_sector, tables}
use Rattle.layout.specs.Headers.{file_mark, mark_at, name_at, last_at, used_at, date_at, tables_at, near_at, numbers, addresses_in, fields_in, read_header, links_due}
use Rattle.layout.proofs.Writing.{next, length-stored_all, stored_all-push}

-- ADDRESSES, ONE MORE
pub put-one-more : (c s : Contents) (at i v : ℕ) (list : List Address) (d : Address) → at + word_size * length list ≤ length c → i < length list → v ≡ (get_or list i d).0 → s ≡ written c at (stored_all (numbers (take i list))) → written s (at + 4 * i) (stored v) ≡ written c at (stored_all (numbers (take (i + 1) list)))
put-one-more c s at i v list d h l e inv =
    let ws = numbers (take i list) in
    let n : length ws ≡ i = length-map (take i list) (λ (a : Address). a.0) ∙ length-take-le i list (omega arith) in
    let k : at + length (stored_all ws) ≡ at + 4 * i = omega (arith, length-stored_all ws) in
    next c s _ at (at + 4 * i) (stored_all ws) (stored v) inv refl k (omega arith)
    ∙ ap (written c at) (sym (stored_all-push ws v) ∙ ap stored_all (ap (λ (w : ℕ). ws ++ w ∷ []) e ∙ sym (map_more (λ (a : Address). a.0) list i d l)))

-- FIELDS, ONE AFTER ANOTHER
pub header-written : (c s1 s2 s3 s4 s5 s6 s7 : Contents) (nm : List ℕ) (a b d : ℕ) (ts ss : List ℕ) → length nm ≡ name_size → length ts ≡ most_tables → s1 ≡ written c 0 (stored file_mark) → s2 ≡ written s1 4 nm → s3 ≡ written s2 36 (stored a) → s4 ≡ written s3 40 (stored b) → s5 ≡ written s4 44 (stored d) → s6 ≡ written s5 48 (stored_all ts) → s7 ≡ written s6 96 (stored_all ss) → s7 ≡ written c 0 (stored file_mark ++ (nm ++ (stored a ++ (stored b ++ (stored d ++ (stored_all ts ++ stored_all ss))))))
header-written c s1 s2 s3 s4 s5 s6 s7 nm a b d ts ss ln lt e1 e2 e3 e4 e5 e6 e7 =
    let x2 = stored file_mark ++ nm in
    let x3 = x2 ++ stored a in
    let x4 = x3 ++ stored b in
    let x5 = x4 ++ stored d in
    let x6 = x5 ++ stored_all ts in
    let l2 : 0 + length x2 ≡ 36 = omega arith in
    let l3 : 0 + length x3 ≡ 40 = omega (arith, length-append x2 (stored a)) in
    let l4 : 0 + length x4 ≡ 44 = omega (arith, length-append x3 (stored b)) in
    let l5 : 0 + length x5 ≡ 48 = omega (arith, length-append x4 (stored d)) in
    let l6 : 0 + length x6 ≡ 96 = omega (arith, length-append x5 (stored_all ts), length-stored_all ts) in
    let f2 = next c s1 s2 0 4 (stored file_mark) nm e1 e2 refl (omega arith) in
    let f3 = next c s2 s3 0 36 x2 (stored a) f2 e3 l2 (omega arith) in
    let f4 = next c s3 s4 0 40 x3 (stored b) f3 e4 l3 (omega arith) in
    let f5 = next c s4 s5 0 44 x4 (stored d) f4 e5 l4 (omega arith) in
    let f6 = next c s5 s6 0 48 x5 (stored_all ts) f5 e6 l5 (omega arith) in
    let f7 = next c s6 s7 0 96 x6 (stored_all ss) f6 e7 l6 (omega arith) in
    let g : x6 ++ stored_all ss ≡ stored file_mark ++ (nm ++ (stored a ++ (stored b ++ (stored d ++ (stored_all ts ++ stored_all ss))))) = simp append_assoc in
    f7 ∙ ap (written c 0) g

-- READING
pub header_read : (c : Contents) (h : Header) → word c mark_at ≡ file_mark → good_end (word c last_at) (word c used_at) ≡ true → h.name.bytes ≡ part c name_at name_size → h.length.0 ≡ length_of (word c last_at) (word c used_at) → h.date ≡ word c date_at → h.tables ≡ addresses_in c tables_at most_tables → h.sectors ≡ addresses_in c near_at near_sectors → Ok h ≡ read_header c
header_read c h m g e1 e2 e3 e4 e5 =
    let f : h ≡ fields_in c = λ i. record { name = record { bytes = e1 i }; length = record { 0 = e2 i }; date = e3 i; tables = e4 i; sectors = e5 i } in
    rw (eq-eqb (word c mark_at) file_mark m, g, f)

-- addresses asked one after another, wherever their entries begin
pub due-all : (size due from i j : ℕ) → from + i ≡ j → (list : List Address) → list_all (λ (p : ℕ × Address). as_due size (ltb p.0 due) p.1.0) (enumerate_from i list) ≡ due_from size (due + from) j (numbers list)
due-all size due from i j e [] = refl
due-all size due from i j e (a ∷ list) =
    let t : ltb i due ≡ ltb j (due + from) = grind (arith, nat_tests) in
    rw t (ap (λ (b : Bool). as_due size (ltb j (due + from)) a.0 && b) (due-all size due from (i + 1) (suc j) (omega arith) list))

-- the links of a header, asked one after another
pub links-asked : (own size a m : ℕ) (h : Header) (d : Address) (x y z : Bool) → length h.sectors ≡ near_sectors → x ≡ eqb (get_or h.sectors 0 d).0 (address own) → a ≡ last_sector h.length.0 → m ≡ tables a → y ≡ due_from size (a + 1) 1 (numbers (take 63 (drop 1 h.sectors))) → z ≡ due_from size (m + 0) 0 (numbers h.tables) → links_due own size h ≡ (x && (y && z))
links-asked own size a m h d x y z l ex ea em ey ez =
    let first : get_or (numbers h.sectors) 0 0 ≡ (get_or h.sectors 0 d).0 = get_or-map (λ (b : Address). b.0) h.sectors 0 d 0 (omega arith) in
    let rest : take 63 (drop 1 h.sectors) ≡ drop 1 h.sectors = take_all 63 (drop 1 h.sectors) (omega (arith, l, length-drop 1 h.sectors)) in
    let n : m + 0 ≡ m = omega arith in
    rw (ex, ey, ez, n, em, ea, rest, first, drop-map (λ (b : Address). b.0) 1 h.sectors)
