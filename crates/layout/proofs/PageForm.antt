-- What holds of directory pages as they are stored.
use Rattle.std.proofs.Common.{◌≡◌, ℕ, zero, suc, ◌+◌, ◌-◌, ◌*◌, ◌/◌, ◌^◌, ◌<◌, ◌≤◌, Bool, true, false, cond, not, eqb, List, [], ◌∷◌, ◌++◌, length, drop, replicate, Some, None, Ok, Err, Option, Result, sym, refl, ap, ◌∙◌, subst, ap₂, append_assoc, arith}
use Rattle.std.specs.List.{AllByRecursion}
use Rattle.std.proofs.lemmas.List.{length-append}
use Rattle.std.proofs.lemmas.Bool.{and_parts, and_from, eqb-true, ne_eqb}
use Rattle.std.proofs.lemmas.Bool.Decides.{nat_tests}
use Rattle.numbers.specs.declared.sector.Sector.{Sector}
use Rattle.layout.specs.declared.entry.Entry.{Entry}
use Rattle.layout.specs.declared.entry.StoredEntry.{StoredEntry}
use Rattle.layout.specs.declared.entry.PageKind.{PageKind}
use Rattle.layout.specs.declared.entry.PageFault.{PageFault}
use Rattle.layout.specs.Words.{Contents, Bytes, sector_size, word_size, blank, word, stored, part, written}
use Rattle.numbers.specs.Sectors.{address_step, address, leads, sector_at, as_due}
use Rattle.numbers.specs.Names.{name_size, every, name_in, is_name_field}
use Rattle.layout.specs.Entries.{page_mark, page_mark_at, count_at, first_at, zeros_at, entries_at, entry_size, file_at, below_at, most_entries, head_in, count_fits, entry_at, stored_in, entry_of, check_entry, link_address, stored_form, entry_bytes, all_entry_bytes}
use Rattle.layout.specs.Pages.{PageData, page_front, page_bytes, prepend, rows_in, with_rows, with_head, page_in, no_page, LinkFits, EntryFits, PageFits, DirectoryPages}
use Rattle.layout.proofs.Numbers.{word-stored, word-whole}
use Rattle.numbers.proofs.Linking.{leads-says, leads-from, led-to}
use Rattle.numbers.proofs.Naming.{only, sized}
use Rattle.layout.proofs.Reading.{asked, entry-between}
use Rattle.layout.proofs.Writing.{part-whole, length_part, length-written}

-- LINKS
-- a link that fits: its address is as due, leads back to it, is small, and is 0 just in a leaf
link-says : (size : ℕ) (leaf : Bool) (l : Option Sector) → LinkFits size leaf l → (as_due size (not leaf) (link_address l) ≡ true) × (sector_at size (link_address l) ≡ l) × (size < 2 ^ 16 → link_address l < 2 ^ 32) × (eqb (link_address l) 0 ≡ leaf)
link-says size true None f = (refl, refl, λ h. omega arith, refl)
link-says size true (Some s) f = absurd f
link-says size false None f = absurd f
link-says size false (Some s) f = (leads-from size s.0 f.0 f.1, led-to size s f.0 f.1, λ h. omega (arith, f.1), ne_eqb (address s.0) 0 (omega (arith, f.0)))

-- an address that is as due
link-only : (size : ℕ) (leaf : Bool) (w : ℕ) → as_due size (not leaf) w ≡ true → (link_address (sector_at size w) ≡ w) × LinkFits size leaf (sector_at size w) × (no_page (sector_at size w) ≡ leaf)
link-only size true w e =
    let z : 0 ≡ w = sym (eqb-true w 0 e) in
    let P : ℕ → Type 0 = λ n. (link_address (sector_at size n) ≡ n) × LinkFits size true (sector_at size n) × (no_page (sector_at size n) ≡ true) in
    subst P z (refl, tt, refl)
link-only size false w e =
    let s = leads-says size w e in
    let P : Bool → Type 0 = λ b. let o = cond b (Some (record { 0 = w / address_step })) None in (link_address o ≡ w) × LinkFits size false o × (no_page o ≡ false) in
    subst P (sym e) (sym s.0, (s.1, s.2), refl)

-- a page that fits has at most 24 entries
count_most : (kind : PageKind) (leaf : Bool) (m : ℕ) → count_fits kind leaf m ≡ true → m ≤ most_entries
count_most kind leaf m h = grind (arith, nat_tests)

-- ENTRIES, WRITTEN AND READ
name-long : (f : List ℕ) → is_name_field f ≡ true → length f ≡ name_size
name-long f h = let p = only f h in subst (λ (x : List ℕ). length x ≡ name_size) p.1 (sized (name_in f) p.0)

entry-long : (size : ℕ) (leaf : Bool) (e : Entry) → EntryFits size leaf e → length (entry_bytes e) ≡ entry_size
entry-long size leaf e f = length-append e.name.bytes (stored (address e.file.0) ++ stored (link_address e.below)) ∙ omega (arith, name-long e.name.bytes f.name)

entries-long : (size : ℕ) (leaf : Bool) (es : List Entry) → AllByRecursion (EntryFits size leaf) es → length (all_entry_bytes es) ≡ entry_size * length es
entries-long size leaf [] f = refl
entries-long size leaf (e ∷ es) f =
    length-append (entry_bytes e) (all_entry_bytes es) ∙ omega (arith, entry-long size leaf e f.0, entries-long size leaf es f.1)

module _ (size : ℕ) (leaf : Bool) (small : size < 2 ^ 16) where
  entry-at : (pre rest : Contents) (e : Entry) (i : ℕ) → length pre ≡ entry_at i → EntryFits size leaf e → check_entry size leaf (stored_in (pre ++ (entry_bytes e ++ rest)) i) ≡ Ok e
  entry-at pre rest e i l f =
      let k = link-says size leaf e.below f.below in
      let a = address e.file.0 in
      let b = link_address e.below in
      let c = pre ++ (entry_bytes e ++ rest) in
      let s : stored_in c i ≡ stored_form e =
      entry-between pre rest (stored_form e) (entry_at i) l (name-long e.name.bytes f.name) (omega (arith, f.file.1)) (k.2 small) in
      let q : a / address_step ≡ e.file.0 = omega arith in
      let o : entry_of size (stored_form e) ≡ e =
      λ j. record { name = e.name; file = record { 0 = q j }; below = k.1 j } in
      let t = and_from (leads size a) (as_due size (not leaf) b) (leads-from size e.file.0 f.file.0 f.file.1) k.0 in
      ap (check_entry size leaf) s ∙ rw (f.name, t) (ap (λ (x : Entry). Ok x) o)

  rows_at : (pre rest : Contents) (es : List Entry) (i : ℕ) → length pre ≡ entry_at i → AllByRecursion (EntryFits size leaf) es → rows_in size leaf (pre ++ (all_entry_bytes es ++ rest)) i (length es) ≡ Ok es
  rows_at pre rest [] i l f = refl
  rows_at pre rest (e ∷ es) i l f =
      let c = pre ++ ((entry_bytes e ++ all_entry_bytes es) ++ rest) in
      let one : c ≡ pre ++ (entry_bytes e ++ (all_entry_bytes es ++ rest)) = ap (λ (t : List ℕ). pre ++ t) (append_assoc (entry_bytes e) (all_entry_bytes es) rest) in
      let two : c ≡ (pre ++ entry_bytes e) ++ (all_entry_bytes es ++ rest) = one ∙ sym (append_assoc pre (entry_bytes e) (all_entry_bytes es ++ rest)) in
      let lf : length (pre ++ entry_bytes e) ≡ entry_at (suc i) = length-append pre (entry_bytes e) ∙ omega (arith, entry-long size leaf e f.0) in
      ap₂ prepend (ap (λ (t : Contents). check_entry size leaf (stored_in t i)) one ∙ entry-at pre (all_entry_bytes es ++ rest) e i l f.0)
      (ap (λ (t : Contents). rows_in size leaf t (suc i) (length es)) two ∙ rows_at (pre ++ entry_bytes e) rest es (suc i) lf f.1)

page-back : (kind : PageKind) (size : ℕ) (c : Contents) (p : PageData) → size < 2 ^ 16 → PageFits kind size p → page_in kind size (written c 0 (page_front p)) ≡ Ok p
page-back kind size c p h f =
    let rest = drop (0 + length (page_front p)) c in
    let m = length p.rows in
    let q = link_address p.first in
    let leaf = no_page p.first in
    let k = link-says size leaf p.first f.first in
    let w = written c 0 (page_front p) in
    let front = stored page_mark ++ (stored m ++ (stored q ++ replicate (entries_at - zeros_at) 0)) in
    let few = count_most kind leaf m f.count in
    let em : word w count_at ≡ m = word-stored m (stored q ++ (replicate (entries_at - zeros_at) 0 ++ (all_entry_bytes p.rows ++ rest))) (omega (arith, few)) in
    let eq : word w first_at ≡ q = word-stored q (replicate (entries_at - zeros_at) 0 ++ (all_entry_bytes p.rows ++ rest)) (k.2 h) in
    let head : head_in w ≡ Ok (record { count = m; first = record { 0 = q } }) = λ j. Ok (record { count = em j; first = record { 0 = eq j } }) in
    let rows : rows_in size leaf w 0 m ≡ Ok p.rows = rows_at size leaf h front rest p.rows 0 refl f.entries in
    ap (with_head kind size w) head ∙ go w m q leaf p.first p.rows k.3 f.count k.0 k.1 rows
  where
    go : (w : Contents) (m q : ℕ) (leaf : Bool) (first : Option Sector) (es : List Entry) → eqb q 0 ≡ leaf → count_fits kind leaf m ≡ true → as_due size (not leaf) q ≡ true → sector_at size q ≡ first → rows_in size leaf w 0 m ≡ Ok es → with_head kind size w (Ok (record { count = m; first = record { 0 = q } })) ≡ Ok (record { first = first; rows = es })
    go w m q leaf first es a b d e r = rw (a, b, d, e, r)

-- READ: WHAT STOOD THERE
all-zero : (l : List ℕ) → every (λ b. eqb b 0) l ≡ true → l ≡ replicate (length l) 0
all-zero [] h = refl
all-zero (x ∷ l) h = let p = and_parts (eqb x 0) (every (λ b. eqb b 0) l) h in ap₂ ◌∷◌ (eqb-true x 0 p.0) (all-zero l p.1)

prepend-says : (x : Result Entry PageFault) (y : Result (List Entry) PageFault) (es : List Entry) → prepend x y ≡ Ok es → (e : Entry) × (xs : List Entry) × (x ≡ Ok e) × (y ≡ Ok xs) × (es ≡ e ∷ xs)
prepend-says (Ok e) (Ok xs) es h = (e, xs, refl, refl, cc)
prepend-says (Ok e) (Err f) es h = cc
prepend-says (Err f) y es h = cc

-- what an accepted entry says
entry-says : (size : ℕ) (leaf : Bool) (s : StoredEntry) (e : Entry) → check_entry size leaf s ≡ Ok e → (is_name_field s.name.bytes ≡ true) × (leads size s.file.0 ≡ true) × (as_due size (not leaf) s.below.0 ≡ true) × (entry_of size s ≡ e)
entry-says size leaf s e h =
    let a = asked (λ r. r) _ _ _ refl h in
    let b = asked (λ r. r) _ _ _ refl a.1 in
    let k = and_parts _ _ b.0 in
    (a.0, k.0, k.1, cc (b.1))

module _ (size : ℕ) (leaf : Bool) (c : Contents) (bytes : Bytes c) where
  entry-only : (i : ℕ) (e : Entry) → entry_at i + entry_size ≤ length c → check_entry size leaf (stored_in c i) ≡ Ok e → EntryFits size leaf e × (drop (entry_at i) c ≡ entry_bytes e ++ drop (entry_at i + entry_size) c)
  entry-only i e l h =
      let s = stored_in c i in
      let at = entry_at i in
      let p = entry-says size leaf s e h in
      let q = leads-says size s.file.0 p.1 in
      let k = link-only size leaf s.below.0 p.2 in
      let fits : EntryFits size leaf (entry_of size s) = record { name = p.0; file = (q.1, q.2); below = k.1 } in
      let n2 : at + file_at + word_size ≡ at + below_at = omega arith in
      let n3 : at + below_at + word_size ≡ at + entry_size = omega arith in
      let d1 = part-whole c at name_size in
      let d2 = word-whole c (at + file_at) bytes (omega arith) in
      let d3 = word-whole c (at + below_at) bytes (omega arith) in
      let eq : drop at c ≡ entry_bytes (entry_of size s) ++ drop (at + entry_size) c = rw append_assoc (cc (q.0, k.0)) in
      (subst (EntryFits size leaf) p.3 fits, subst (λ (x : Entry). drop at c ≡ entry_bytes x ++ drop (at + entry_size) c) p.3 eq)

  rows-only : (m i : ℕ) (es : List Entry) → entry_at i + entry_size * m ≤ length c → rows_in size leaf c i m ≡ Ok es → (length es ≡ m) × AllByRecursion (EntryFits size leaf) es × (drop (entry_at i) c ≡ all_entry_bytes es ++ drop (entry_at i + entry_size * m) c)
  rows-only zero i es l h =
      let e : [] ≡ es = cc in
      let n : entry_at i ≡ entry_at i + entry_size * 0 = omega arith in
      subst (λ (x : List Entry). (length x ≡ 0) × AllByRecursion (EntryFits size leaf) x × (drop (entry_at i) c ≡ all_entry_bytes x ++ drop (entry_at i + entry_size * 0) c)) e (refl, tt, ap (λ (j : ℕ). drop j c) n)
  rows-only (suc m) i es l h =
      let p = prepend-says _ _ es h in
      let o = entry-only i p.0 (omega arith) p.2 in
      let r = rows-only m (suc i) p.1 (omega arith) p.3 in
      let n1 : entry_at i + entry_size ≡ entry_at (suc i) = omega arith in
      let n2 : entry_at (suc i) + entry_size * m ≡ entry_at i + entry_size * suc m = omega arith in
      let d : drop (entry_at i) c ≡ (entry_bytes p.0 ++ all_entry_bytes p.1) ++ drop (entry_at i + entry_size * suc m) c = rw (append_assoc (entry_bytes p.0) (all_entry_bytes p.1) (drop (entry_at i + entry_size * suc m) c)) (cc (o.1, r.2)) in
      subst (λ (x : List Entry). (length x ≡ suc m) × AllByRecursion (EntryFits size leaf) x × (drop (entry_at i) c ≡ all_entry_bytes x ++ drop (entry_at i + entry_size * suc m) c)) (sym p.4) (ap suc r.0, (o.0, r.1), d)

rows-say : (o : Option Sector) (r : Result (List Entry) PageFault) (p : PageData) → with_rows o r ≡ Ok p → (o ≡ p.first) × (r ≡ Ok p.rows)
rows-say o (Ok es) p h =
    let s : record { first = o; rows = es } ≡ p = cc in
    (ap (λ (x : PageData). x.first) s, ap (λ (x : PageData). Ok x.rows) s)
rows-say o (Err f) p h = cc

-- what an accepted page says
pub record Says (kind : PageKind) (size : ℕ) (c : Contents) (p : PageData) : Type 0 where
  pub mark : word c page_mark_at ≡ page_mark
  pub zeros : every (λ b. eqb b 0) (part c zeros_at (entries_at - zeros_at)) ≡ true
  pub count : count_fits kind (eqb (word c first_at) 0) (word c count_at) ≡ true
  pub link : as_due size (not (eqb (word c first_at) 0)) (word c first_at) ≡ true
  pub first : sector_at size (word c first_at) ≡ p.first
  pub rows : rows_in size (eqb (word c first_at) 0) c 0 (word c count_at) ≡ Ok p.rows

page-says : (kind : PageKind) (size : ℕ) (c : Contents) (p : PageData) → page_in kind size c ≡ Ok p → Says kind size c p
page-says kind size c p h =
    let a = asked (with_head kind size c) _ _ _ refl h in
    let b = and_parts _ _ a.0 in
    let d = asked (λ r. r) _ _ _ refl a.1 in
    let e = asked (λ r. r) _ _ _ refl d.1 in
    let r = rows-say _ _ p e.1 in
    record { mark = eqb-true _ _ b.0; zeros = b.1; count = d.0; link = e.0; first = r.0; rows = r.1 }

front_long : (kind : PageKind) (size : ℕ) (p : PageData) → PageFits kind size p → length (page_front p) ≡ entries_at + entry_size * length p.rows
front_long kind size p f = omega (arith, entries-long size (no_page p.first) p.rows f.entries)

page-only : (kind : PageKind) (size : ℕ) (c : Contents) (p : PageData) → length c ≡ sector_size → Bytes c → page_in kind size c ≡ Ok p → PageFits kind size p × (c ≡ written c 0 (page_front p))
page-only kind size c p l b h =
    let s = page-says kind size c p h in
    let m = word c count_at in
    let q = word c first_at in
    let leaf = eqb q 0 in
    let k = link-only size leaf q s.link in
    let few = count_most kind leaf m s.count in
    let r = rows-only size leaf c b m 0 p.rows (omega arith) s.rows in
    let n : no_page p.first ≡ leaf = ap no_page (sym s.first) ∙ k.2 in
    let fits : PageFits kind size p = record {
      count = ap₂ (count_fits kind) n r.0 ∙ s.count;
      first = subst (λ (x : Bool). LinkFits size x p.first) (sym n) (subst (LinkFits size leaf) s.first k.1);
      entries = subst (λ (x : Bool). AllByRecursion (EntryFits size x) p.rows) (sym n) r.1;
    } in
    let z : part c zeros_at (entries_at - zeros_at) ≡ replicate (entries_at - zeros_at) 0 = all-zero (part c zeros_at (entries_at - zeros_at)) s.zeros ∙ ap (λ (j : ℕ). replicate j 0) (length_part c zeros_at (entries_at - zeros_at) (omega arith)) in
    let a : link_address p.first ≡ q = ap link_address (sym s.first) ∙ k.0 in
    let j : entries_at + entry_size * m ≡ 0 + length (page_front p) = omega (arith, front_long kind size p fits) in
    let d4 = part-whole c zeros_at (entries_at - zeros_at) ∙ ap₂ ◌++◌ z (r.2 ∙ ap (λ (i : ℕ). all_entry_bytes p.rows ++ drop i c) j) in
    let d3 = word-whole c first_at b (omega arith) in
    let d2 = word-whole c count_at b (omega arith) in
    let d1 = rw s.mark at (word-whole c page_mark_at b (omega arith)) in
    (fits, cc (r.0))

page-fits : (kind : PageKind) (size : ℕ) (p : PageData) → PageFits kind size p → length (page_bytes p) ≡ sector_size
unfolding blank
page-fits kind size p f =
    let l : length blank ≡ sector_size = refl in
    length-written blank 0 (page_front p) (omega (arith, l, front_long kind size p f, count_most kind (no_page p.first) (length p.rows) f.count)) ∙ l

pub directory-pages : DirectoryPages
directory-pages =
    record {
      back = page-back;
      only = page-only;
      again = λ kind size c p h l b e. page-back kind size blank p h (page-only kind size c p l b e).0;
      fits = page-fits;
    }
