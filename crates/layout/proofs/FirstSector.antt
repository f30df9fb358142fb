-- What holds of first sectors and extension tables as they are stored.
use Rattle.std.proofs.Common.{◌≡◌, ℕ, ◌+◌, ◌^◌, ◌<◌, ◌≤◌, Bool, true, cond, eqb, List, ◌++◌, length, drop, Ok, Err, sym, refl, ap, ◌∙◌, subst, ap₂, append_assoc, arith}
use Rattle.std.specs.List.{AllByRecursion}
use Rattle.std.proofs.lemmas.List.{length-append, length-map}
use Rattle.std.proofs.lemmas.Grind.{common_steps}
use Rattle.std.proofs.lemmas.Bool.{eqb-true, eq-eqb, and_from}
use Rattle.numbers.specs.declared.sector.Address.{Address}
use Rattle.layout.specs.declared.header.Header.{Header}
use Rattle.layout.specs.declared.header.HeaderFault.TheVariants.{Link}
use Rattle.numbers.specs.Sectors.{address}
use Rattle.layout.specs.Words.{Contents, Bytes, sector_size, word, words, stored, stored_all, part, written}
use Rattle.numbers.specs.Names.{name_size}
use Rattle.numbers.specs.Lengths.{header_size, most_tables, near_sectors, longest, last_sector, last_bytes, length_of, good_end}
use Rattle.layout.specs.Headers.{file_mark, mark_at, name_at, last_at, used_at, date_at, tables_at, near_at, numbers, addresses_in, header_bytes, fields_in, read_header, links_due, linked, header_in, IsHeader, FirstSectors}
use Rattle.layout.proofs.Numbers.{word-past, word-stored, word-whole, word_fits}
use Rattle.numbers.proofs.Sizes.{most, back, good, only, used}
use Rattle.layout.proofs.Writing.{length-stored_all, words-whole, words-fit, part_at, part-whole, length_part}
use Rattle.layout.proofs.Reading.{asked, length-addresses, numbers-in, addresses-at}
use Rattle.layout.proofs.Heading.{header_read}

-- THE BYTES OF A HEADER
module _ (nm : List ℕ) (a b d : ℕ) (ts ss : List Address) (rest : List ℕ) where
  -- fields, one after another
  flat : Contents
  flat = stored file_mark ++ (nm ++ (stored a ++ (stored b ++ (stored d ++ (stored_all (numbers ts) ++ (stored_all (numbers ss) ++ rest))))))

  flat-is : (stored file_mark ++ (nm ++ (stored a ++ (stored b ++ (stored d ++ (stored_all (numbers ts) ++ stored_all (numbers ss))))))) ++ rest ≡ flat
  unfolding flat
  flat-is = simp append_assoc

  module _ (ln : length nm ≡ name_size) where
    front_long : length (stored file_mark ++ nm) ≡ last_at
    front_long = omega arith

    middle-long : length ((stored file_mark ++ nm) ++ (stored a ++ (stored b ++ stored d))) ≡ tables_at
    middle-long = length-append (stored file_mark ++ nm) (stored a ++ (stored b ++ stored d)) ∙ omega arith

    flat-mark : word flat mark_at ≡ file_mark
    unfolding flat
    flat-mark = refl

    flat-name : nm ≡ part flat name_at name_size
    unfolding flat
    flat-name = sym (part_at (stored file_mark) nm (stored a ++ (stored b ++ (stored d ++ (stored_all (numbers ts) ++ (stored_all (numbers ss) ++ rest))))) name_at name_size refl ln)

    rear : Contents
    rear = stored a ++ (stored b ++ (stored d ++ (stored_all (numbers ts) ++ (stored_all (numbers ss) ++ rest))))

    flat-last : a < 2 ^ 32 → word flat last_at ≡ a
    unfolding flat rear
    flat-last h = word-past (stored file_mark ++ nm) rear last_at 0 front_long ∙ word-stored a (stored b ++ (stored d ++ (stored_all (numbers ts) ++ (stored_all (numbers ss) ++ rest)))) h

    flat-used : b < 2 ^ 32 → word flat used_at ≡ b
    unfolding flat rear
    flat-used h = word-past (stored file_mark ++ nm) rear last_at 4 front_long ∙ word-stored b (stored d ++ (stored_all (numbers ts) ++ (stored_all (numbers ss) ++ rest))) h

    flat-date : d < 2 ^ 32 → word flat date_at ≡ d
    unfolding flat rear
    flat-date h = word-past (stored file_mark ++ nm) rear last_at 8 front_long ∙ word-stored d (stored_all (numbers ts) ++ (stored_all (numbers ss) ++ rest)) h

    flat-tables : length ts ≡ most_tables → AllByRecursion (λ w. w < 2 ^ 32) (numbers ts) → ts ≡ addresses_in flat tables_at most_tables
    unfolding flat
    flat-tables l h =
        let p = stored file_mark ++ nm in
        let q = stored a ++ (stored b ++ stored d) in
        let r = stored_all (numbers ts) ++ (stored_all (numbers ss) ++ rest) in
        addresses-at (p ++ q) (stored_all (numbers ss) ++ rest) ts tables_at most_tables middle-long l h ∙ ap (λ (t : Contents). addresses_in t tables_at most_tables) (append_assoc p q r)

    flat-sectors : length ts ≡ most_tables → length ss ≡ near_sectors → AllByRecursion (λ w. w < 2 ^ 32) (numbers ss) → ss ≡ addresses_in flat near_at near_sectors
    unfolding flat
    flat-sectors l k h =
        let p = stored file_mark ++ nm in
        let q = stored a ++ (stored b ++ stored d) in
        let t = stored_all (numbers ts) in
        let r = stored_all (numbers ss) ++ rest in
        let n : length ((p ++ q) ++ t) ≡ near_at = length-append (p ++ q) t ∙ omega (arith, middle-long, length-stored_all (numbers ts), length-map ts (λ (x : Address). x.0)) in
        addresses-at ((p ++ q) ++ t) rest ss near_at near_sectors n k h ∙ ap (λ (x : Contents). addresses_in x near_at near_sectors) (append_assoc (p ++ q) t r ∙ append_assoc p q (t ++ r))

-- WRITTEN, THEN READ
length-header : (h : Header) → IsHeader h → length (header_bytes h) ≡ header_size
length-header h i =
    grind (arith, common_steps, length-stored_all)

read_back : (c : Contents) (h : Header) → IsHeader h → h.length.0 ≤ longest → read_header (written c 0 (header_bytes h)) ≡ Ok h
read_back c h i l =
    let rest = drop (0 + length (header_bytes h)) c in
    let n = h.name.bytes in
    let a = last_sector h.length.0 in
    let b = last_bytes h.length.0 in
    let f = flat n a b h.date h.tables h.sectors rest in
    let la : a < 2 ^ 32 = omega (arith, (most h.length.0 l).0) in
    let lb : b < 2 ^ 32 = omega (arith, (used h.length.0).1) in
    let ea = flat-last n a b h.date h.tables h.sectors rest i.name la in
    let eb = flat-used n a b h.date h.tables h.sectors rest i.name lb in
    ap read_header (flat-is n a b h.date h.tables h.sectors rest)
    ∙ sym (header_read f h (flat-mark n a b h.date h.tables h.sectors rest i.name) (ap₂ good_end ea eb ∙ good h.length.0 l)
    (flat-name n a b h.date h.tables h.sectors rest i.name) (sym (ap₂ length_of ea eb ∙ back h.length.0))
    (sym (flat-date n a b h.date h.tables h.sectors rest i.name i.date))
    (flat-tables n a b h.date h.tables h.sectors rest i.name i.tables.0 i.tables.1)
    (flat-sectors n a b h.date h.tables h.sectors rest i.name i.tables.0 i.sectors.0 i.sectors.1))

header-back : (own size : ℕ) (c : Contents) (h : Header) → IsHeader h → h.length.0 ≤ longest → links_due own size h ≡ true → header_in own size (written c 0 (header_bytes h)) ≡ Ok h
header-back own size c h i l d = ap (linked own size) (read_back c h i l) ∙ ap (λ (b : Bool). cond b (Ok h) (Err Link)) d

-- READ: WHAT STOOD THERE
-- what an accepted header says
read-says : (own size : ℕ) (c : Contents) (h : Header) → header_in own size c ≡ Ok h → (word c mark_at ≡ file_mark) × (good_end (word c last_at) (word c used_at) ≡ true) × (h ≡ fields_in c) × (links_due own size h ≡ true)
read-says own size c h e =
    let a = asked (linked own size) _ _ _ refl e in
    let b = asked (linked own size) _ _ _ refl a.1 in
    let d = asked (λ r. r) _ _ _ refl b.1 in
    let f : h ≡ fields_in c = cc (d.1) in
    (eqb-true _ _ a.0, b.0, f, ap (links_due own size) f ∙ d.0)

fields-typed : (c : Contents) → length c ≡ sector_size → Bytes c → IsHeader (fields_in c)
fields-typed c l b =
    record {
      name = length_part c name_at name_size (omega arith);
      date = word_fits c date_at b (omega arith);
      tables = (length-addresses c tables_at most_tables, subst (AllByRecursion (λ (w : ℕ). w < 2 ^ 32)) (sym (numbers-in (words c tables_at most_tables))) (words-fit c tables_at most_tables b (omega arith)));
      sectors = (length-addresses c near_at near_sectors, subst (AllByRecursion (λ (w : ℕ). w < 2 ^ 32)) (sym (numbers-in (words c near_at near_sectors))) (words-fit c near_at near_sectors b (omega arith)));
    }

-- the bytes of a sector, field by field
fields-whole : (c : Contents) → length c ≡ sector_size → Bytes c → word c mark_at ≡ file_mark → c ≡ flat (part c name_at name_size) (word c last_at) (word c used_at) (word c date_at) (fields_in c).tables (fields_in c).sectors (drop header_size c)
unfolding flat
fields-whole c l b e =
    let m = rw e at (word-whole c mark_at b (omega arith)) in
    let n = part-whole c name_at name_size in
    let a = word-whole c last_at b (omega arith) in
    let u = word-whole c used_at b (omega arith) in
    let d = word-whole c date_at b (omega arith) in
    let t = words-whole c tables_at most_tables b (omega arith) in
    let s = words-whole c near_at near_sectors b (omega arith) in
    cc

header-only : (own size : ℕ) (c : Contents) (h : Header) → length c ≡ sector_size → Bytes c → header_in own size c ≡ Ok h → IsHeader h × (h.length.0 ≤ longest) × (links_due own size h ≡ true) × (c ≡ written c 0 (header_bytes h))
header-only own size c h l b e =
    let s = read-says own size c h e in
    let o = only (word c last_at) (word c used_at) s.1 in
    let f = fields_in c in
    let i = fields-typed c l b in
    let k : header_size ≡ 0 + length (header_bytes f) = omega (arith, length-header f i) in
    let g : c ≡ written c 0 (header_bytes f) =
    fields-whole c l b s.0 ∙ ap₂ (λ (x y : ℕ). flat f.name.bytes x y f.date f.tables f.sectors (drop header_size c)) (sym o.1) (sym o.2)
    ∙ sym (flat-is f.name.bytes (last_sector f.length.0) (last_bytes f.length.0) f.date f.tables f.sectors (drop header_size c)) ∙ ap (λ (j : ℕ). header_bytes f ++ drop j c) k in
    (subst IsHeader (sym s.2) i, subst (λ (x : Header). x.length.0 ≤ longest) (sym s.2) o.0, s.3, subst (λ (x : Header). c ≡ written c 0 (header_bytes x)) (sym s.2) g)

pub first-sectors : FirstSectors
first-sectors =
    record {
      back = header-back;
      only = header-only;
      empty = λ own size name. and_from (eqb (address own) (address own)) true (eq-eqb (address own) (address own) refl) refl;
      again = λ own size c d h l b e. let o = header-only own size c h l b e in header-back own size d h o.0 o.1 o.2;
    }
