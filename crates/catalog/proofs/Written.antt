-- What is written is laid.
use Rattle.std.proofs.Common.{◌≡◌, ℕ, zero, suc, ◌+◌, ◌-◌, ◌*◌, ◌^◌, ◌<◌, ◌≤◌, List, [], ◌∷◌, ◌++◌, map, length, get_or, take, drop, replicate, sym, refl, ap, ◌∙◌, subst, inl, inr, append_assoc, arith}
use Rattle.std.specs.List.{AllByRecursion}
use Rattle.std.proofs.lemmas.List.{length-append, length-replicate, length-map, length-take, get_or-take, get_or_append_left, get_or-append-add, take_all}
use Rattle.numbers.specs.Names.{Key, name_size, name_field}
use Rattle.numbers.specs.Lengths.{sector_size, header_size, near_sectors, most_tables, last_sector, last_bytes}
use Rattle.numbers.specs.Sectors.{address, link_address}
use Rattle.numbers.proofs.Sizes.{most, used}
use Rattle.numbers.specs.declared.sector.Address.{Address}
use Rattle.layout.specs.declared.entry.Entry.{Entry as StoredData}
use Rattle.layout.specs.declared.entry.StoredEntry.{StoredEntry}
use Rattle.layout.specs.Words.{word_size, blank, word, stored, stored_all, numbers}
use Rattle.layout.specs.Entries.{page_mark, zeros_at, entries_at, entry_size, entry_at, stored_form, entry_bytes, all_entry_bytes}
use Rattle.layout.specs.Headers.{file_mark, last_at, tables_at, near_at, header_bytes}
use Rattle.layout.specs.Pages.{page_front}
use Rattle.layout.proofs.Numbers.{word-past, word-stored}
use Rattle.layout.proofs.Reading.{entry-between}
use Rattle.layout.proofs.Writing.{length-written}
use Rattle.tree.specs.Tree.{Entry, Item, item, page, All}
use Rattle.disk.specs.Meaning.{In}
use Rattle.catalog.specs.Catalogs.{Laid}
use Rattle.catalog.specs.Lays.{under, ItemsAt}
use Rattle.catalog.specs.Written.{sector_under, entries_data, page_data, addresses, header_of}
use Rattle.catalog.specs.Laws.{ItemFits, PageWritten, HeaderTyped, HeadWritten}
use Rattle.catalog.proofs.Frame.{word_same}

name-long : (k : Key) → length k ≤ name_size → length (name_field k) ≡ name_size
name-long k h = simp (length-append, length-replicate) (omega arith)

-- PAGES
address-under : (n : ℕ) (t : Laid n) → link_address (sector_under n t) ≡ under n t
address-under zero t = refl
address-under (suc n) t = refl

-- an entry of a page as it is written
abbrev entry_data : (n : ℕ) → Entry Key → Laid n → StoredData
entry_data n e d = record { name = record { bytes = name_field e.0 }; file = record { 0 = e.1 }; below = sector_under n d }

entry-long : (n : ℕ) (e : Entry Key) (d : Laid n) → length e.0 ≤ name_size → length (entry_bytes (entry_data n e d)) ≡ entry_size
entry-long n e d h = length-append (name_field e.0) (stored (address e.1) ++ stored (link_address (sector_under n d))) ∙ omega (arith, name-long e.0 h)

module _ (n : ℕ) where
  length-data : (xs : List (Item Key (Laid n))) → length (entries_data n xs) ≡ length xs
  length-data [] = refl
  length-data (item e d ∷ xs) = ap suc (length-data xs)

  items-written : (pre post : List ℕ) (xs : List (Item Key (Laid n))) (i : ℕ) → length pre ≡ entry_at i → All (ItemFits n) xs → ItemsAt n (pre ++ (all_entry_bytes (entries_data n xs) ++ post)) i xs
  items-written pre post [] i l h = tt
  items-written pre post (item e d ∷ xs) i l h =
      let f = h.0 in
      let one = entry_data n e d in
      let rest = all_entry_bytes (entries_data n xs) in
      let c = pre ++ ((entry_bytes one ++ rest) ++ post) in
      let near : c ≡ pre ++ (entry_bytes one ++ (rest ++ post)) = ap (λ (t : List ℕ). pre ++ t) (append_assoc (entry_bytes one) rest post) in
      let far : c ≡ (pre ++ entry_bytes one) ++ (rest ++ post) = near ∙ sym (append_assoc pre (entry_bytes one) (rest ++ post)) in
      let nl = name-long e.0 f.0 in
      let below = subst (λ (z : ℕ). z < 2 ^ 32) (sym (address-under n d)) f.2 in
      let s = entry-between pre (rest ++ post) (stored_form one) (entry_at i) l nl f.1 below in
      let t = subst (λ (z : List ℕ). ItemsAt n z i (item e d ∷ [])) (sym near) (ap (λ (x : StoredEntry). x.name.bytes) s, ap (λ (x : StoredEntry). x.file.0) s, ap (λ (x : StoredEntry). x.below.0) s ∙ address-under n d, tt) in
      let el : length (pre ++ entry_bytes one) ≡ entry_at (suc i) = length-append pre (entry_bytes one) ∙ omega (arith, entry-long n e d f.0) in
      (t.0, t.1, t.2, subst (λ (z : List ℕ). ItemsAt n z (suc i) xs) (sym far) (items-written (pre ++ entry_bytes one) post xs (suc i) el h.1))

  items-long : (xs : List (Item Key (Laid n))) → All (ItemFits n) xs → length (all_entry_bytes (entries_data n xs)) ≡ entry_size * length xs
  items-long [] h = refl
  items-long (item e d ∷ xs) h =
      length-append (entry_bytes (entry_data n e d)) (all_entry_bytes (entries_data n xs)) ∙ omega (arith, entry-long n e d h.0.0, items-long xs h.1)

blank-long : length blank ≡ sector_size
unfolding blank
blank-long = length-replicate {A = ℕ} sector_size 0

pub page-written : PageWritten
page-written n (page d xs) h =
    let p = page_data n (page d xs) in
    let m = length p.rows in
    let q = link_address p.first in
    let rest = drop (0 + length (page_front p)) blank in
    let rows = all_entry_bytes p.rows in
    let front = stored page_mark ++ (stored m ++ (stored q ++ replicate (entries_at - zeros_at) 0)) in
    let em : m ≡ length xs = length-data n xs in
    let eq : q ≡ under n d = address-under n d in
    let long : length (page_front p) ≡ entries_at + length rows = length-append front rows ∙ refl in
    let fits : 0 + length (page_front p) ≤ length blank = omega (arith, long, items-long n xs h.2, blank-long) in (
      (
        refl,
        word-stored m (stored q ++ (replicate (entries_at - zeros_at) 0 ++ (rows ++ rest))) (omega arith) ∙ em,
        word-stored q (replicate (entries_at - zeros_at) 0 ++ (rows ++ rest)) (omega arith) ∙ eq,
        refl,
        items-written n front rest xs 0 refl h.2,
      ),
      length-written blank 0 (page_front p) fits ∙ blank-long,
    )

-- A FILE'S HEADER
abbrev Small : List ℕ → Type 0
Small ws = AllByRecursion (λ (w : ℕ). w < 2 ^ 32) ws

small-join : (l r : List ℕ) → Small l → Small r → Small (l ++ r)
small-join [] r h k = k
small-join (x ∷ l) r h k = (h.0, small-join l r h.1 k)

abbrev address_of : ℕ → Address
address_of s = record { 0 = address s }

filled_at : (l : List ℕ) (m k : ℕ) → get_or (numbers (map address_of (l ++ replicate m 0))) k 0 ≡ address (get_or l k 0)
filled_at [] zero k = refl
filled_at [] (suc m) zero = refl
filled_at [] (suc m) (suc k) = filled_at [] m k
filled_at (x ∷ l) m zero = refl
filled_at (x ∷ l) m (suc k) = filled_at l m k

filled-small : (l : List ℕ) (m : ℕ) → ((s : ℕ) → In s l → address s < 2 ^ 32) → Small (numbers (map address_of (l ++ replicate m 0)))
filled-small [] zero h = tt
filled-small [] (suc m) h = (omega arith, filled-small [] m h)
filled-small (x ∷ l) m h = (h x (inl refl), filled-small l m (λ s i. h s (inr i)))

addresses-long : (n : ℕ) (l : List ℕ) → length l ≤ n → length (addresses n l) ≡ n
addresses-long n l h = length-map (l ++ replicate (n - length l) 0) address_of ∙ (length-append l (replicate (n - length l) 0) ∙ omega (arith, length-replicate {A = ℕ} (n - length l) 0))

in_take : (n : ℕ) (l : List ℕ) (p : ℕ) → In p (take n l) → In p l
in_take zero l p h = absurd h
in_take (suc n) [] p h = absurd h
in_take (suc n) (x ∷ l) p (inl e) = inl e
in_take (suc n) (x ∷ l) p (inr h) = inr (in_take n l p h)

pub header-typed : HeaderTyped
header-typed name x h = record {
  name = name-long name h.short;
  date = omega arith;
  tables = (addresses-long most_tables x.tabs (omega (arith, h.tabs, (most x.long h.fits).1)), filled-small x.tabs (most_tables - length x.tabs) (λ s i. h.small s (inr i)));
  sectors = (
    addresses-long near_sectors (take near_sectors x.parts) (omega (arith, length-take near_sectors x.parts)),
    filled-small (take near_sectors x.parts) (near_sectors - length (take near_sectors x.parts)) (λ s i. h.small s (inl (in_take near_sectors x.parts s i))),
  );
}

stored_all-append : (l r : List ℕ) → stored_all (l ++ r) ≡ stored_all l ++ stored_all r
stored_all-append [] r = refl
stored_all-append (w ∷ l) r = ap (λ (z : List ℕ). stored w ++ z) (stored_all-append l r)

stored_is : (ws : List ℕ) (k : ℕ) → k < length ws → Small ws → word (stored_all ws) (word_size * k) ≡ get_or ws k 0
stored_is [] k l h = absurd (omega arith)
stored_is (w ∷ ws) zero l h = word-stored w (stored_all ws) h.0
stored_is (w ∷ ws) (suc k) l h =
    let e : word_size * suc k ≡ word_size + word_size * k = omega arith in
    ap (λ (z : ℕ). word (stored_all (w ∷ ws)) z) e ∙ (word-past (stored w) (stored_all ws) word_size (word_size * k) refl ∙ stored_is ws k (omega arith) h.1)

pub head-written : HeadWritten
head-written shown s name x f h =
    let d = header_of name x in
    let t = header-typed name x f in
    let a = last_sector x.long in
    let b = last_bytes x.long in
    let ts = numbers d.tables in
    let ps = numbers d.sectors in
    let ws = a ∷ b ∷ 0 ∷ (ts ++ ps) in
    let tl : length ts ≡ most_tables = length-map d.tables (λ (y : Address). y.0) ∙ t.tables.0 in
    let pl : length ps ≡ near_sectors = length-map d.sectors (λ (y : Address). y.0) ∙ t.sectors.0 in
    let wl : length ws ≡ 79 = omega (arith, length-append ts ps) in
    let small : Small ws = (omega (arith, (most x.long f.fits).0), (omega (arith, (used x.long).1), (omega arith, small-join ts ps t.tables.1 t.sectors.1))) in
    let front : List ℕ = stored file_mark ++ name_field name in
    let shape : header_bytes d ≡ front ++ stored_all ws = ap (λ (z : List ℕ). front ++ (stored a ++ (stored b ++ (stored 0 ++ z)))) (sym (stored_all-append ts ps)) in
    let fl : length front ≡ last_at = omega (arith, name-long name f.short) in
    let same : (i : ℕ) → i < 349 → word (shown s) i ≡ word (header_bytes d) i = λ i l. front_same i l in
    let at : (j : ℕ) → j < 79 → word (shown s) (last_at + word_size * j) ≡ get_or ws j 0 =
    λ j l. same (last_at + word_size * j) (omega arith) ∙ (ap (λ (z : List ℕ). word z (last_at + word_size * j)) shape ∙ (word-past front (stored_all ws) last_at (word_size * j) fl ∙ stored_is ws j (omega arith) small)) in
    record {
      fits = f.fits;
      mark = same 0 (omega arith);
      last = at 0 (omega arith);
      used = at 1 (omega arith);
      reaches = record {
        first = h.first;
        parts = f.parts;
        tabs = f.tabs;
        extensions = λ k l.
            let e : tables_at + word_size * k ≡ last_at + word_size * suc (suc (suc k)) = omega arith in
            ap (λ (z : ℕ). word (shown s) z) e ∙ (at (suc (suc (suc k))) (omega arith) ∙ (get_or_append_left ts ps 0 k (omega arith) ∙ filled_at x.tabs (most_tables - length x.tabs) k));
        near = λ i l.
            let e : near_at + word_size * i ≡ last_at + word_size * suc (suc (suc (most_tables + i))) = omega arith in
            let g : most_tables + i ≡ length ts + i = omega arith in
            let near = take near_sectors x.parts in
            ap (λ (z : ℕ). word (shown s) z) e ∙ (at (suc (suc (suc (most_tables + i)))) (omega arith) ∙ (ap (λ (z : ℕ). get_or (ts ++ ps) z 0) g
            ∙ (get_or-append-add ts ps i 0 ∙ (filled_at near (near_sectors - length near) i ∙ ap address (get_or-take near_sectors x.parts i 0 l)))));
        far = h.far;
      };
    }
  where
    front_same : (i : ℕ) → i < 349 → word (shown s) i ≡ word (header_bytes (header_of name x)) i
    front_same i l = word_same (shown s) (header_bytes (header_of name x)) (h.head ∙ sym (take_all header_size (header_bytes (header_of name x)) short)) i l
      where
        short : length (header_bytes (header_of name x)) ≤ header_size
        short = subst (λ (z : List ℕ). length z ≤ header_size) h.head (omega (arith, length-take header_size (shown s)))
