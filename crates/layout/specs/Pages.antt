-- Directory pages.
use Rattle.std.specs.Prelude.{◌≡◌, ℕ, zero, suc, ◌-◌, ◌^◌, ◌<◌, ◌≤◌, Bool, true, false, cond, not, List, [], ◌∷◌, ◌++◌, length, replicate, Some, None, Ok, Err, Option, Result}
use Rattle.std.specs.List.{AllByRecursion}
use Rattle.numbers.specs.declared.sector.Sector.{Sector}
use Rattle.layout.specs.declared.entry.Entry.{Entry}
use Rattle.layout.specs.declared.entry.PageHead.{PageHead}
use Rattle.layout.specs.declared.entry.PageKind.{PageKind}
use Rattle.layout.specs.declared.entry.PageFault.{PageFault}
use Rattle.layout.specs.declared.entry.PageFault.TheVariants.{BadLink}
use Rattle.layout.specs.Words.{Contents, Bytes, sector_size, blank, stored, written}
use Rattle.numbers.specs.Sectors.{first_linked, sector_at, as_due}
use Rattle.numbers.specs.Names.{is_name_field}
use Rattle.layout.specs.Entries.{page_mark, zeros_at, entries_at, head_in, is_leaf, count_fits, count_fault, stored_in, check_entry, link_address, all_entry_bytes}

-- a page by what it holds: p0 and the entries
pub record PageData : Type 0 where
  pub first : Option Sector
  pub rows : List Entry

-- the bytes of a page up to its last entry
abbrev pub page_front : PageData → List ℕ
page_front p = stored page_mark ++ (stored (length p.rows) ++ (stored (link_address p.first) ++ (replicate (entries_at - zeros_at) 0 ++ all_entry_bytes p.rows)))

-- a page is built upon a sector of zeros, so that the entries it does not use are 0
abbrev pub page_bytes : PageData → Contents
page_bytes p = written blank 0 (page_front p)

-- entries i and up, m of them: each is asked for its name, then for its addresses
abbrev pub prepend : Result Entry PageFault → Result (List Entry) PageFault → Result (List Entry) PageFault
prepend (Ok e) (Ok es) = Ok (e ∷ es)
prepend (Ok e) (Err f) = Err f
prepend (Err f) r = Err f

abbrev pub rows_in : ℕ → Bool → Contents → ℕ → ℕ → Result (List Entry) PageFault
rows_in size leaf c i zero = Ok []
rows_in size leaf c i (suc m) = prepend (check_entry size leaf (stored_in c i)) (rows_in size leaf c (suc i) m)

abbrev pub with_rows : Option Sector → Result (List Entry) PageFault → Result PageData PageFault
with_rows first (Ok es) = Ok (record { first = first; rows = es })
with_rows first (Err f) = Err f

-- after the head are asked the number of entries, p0, and the entries
abbrev pub with_head : PageKind → ℕ → Contents → Result PageHead PageFault → Result PageData PageFault
with_head kind size c (Err f) = Err f
with_head kind size c (Ok h) =
    cond (count_fits kind (is_leaf h) h.count)
    (cond (as_due size (not (is_leaf h)) h.first.0) (with_rows (sector_at size h.first.0) (rows_in size (is_leaf h) c 0 h.count)) (Err BadLink))
    (Err (count_fault kind (is_leaf h)))

abbrev pub page_in : PageKind → ℕ → Contents → Result PageData PageFault
page_in kind size c = with_head kind size c (head_in c)

-- a leaf has no page below; another page has one at p0 and at each entry
abbrev pub no_page : Option Sector → Bool
no_page None = true
no_page (Some s) = false

abbrev pub LinkFits : ℕ → Bool → Option Sector → Type 0
LinkFits size true None = Unit {0}
LinkFits size true (Some s) = ⊥
LinkFits size false None = ⊥
LinkFits size false (Some s) = (first_linked ≤ s.0) × (s.0 < size)

pub record EntryFits (size : ℕ) (leaf : Bool) (e : Entry) : Type 0 where
  pub name : is_name_field e.name.bytes ≡ true
  pub file : (first_linked ≤ e.file.0) × (e.file.0 < size)
  pub below : LinkFits size leaf e.below

pub record PageFits (kind : PageKind) (size : ℕ) (p : PageData) : Type 0 where
  pub count : count_fits kind (no_page p.first) (length p.rows) ≡ true
  pub first : LinkFits size (no_page p.first) p.first
  pub entries : AllByRecursion (EntryFits size (no_page p.first)) p.rows

-- sectors and pages are one to one, but for the entries that a page does not use
pub record DirectoryPages : Type 0 where
  -- a page that was written is read again, whatever stands behind its last entry
  pub back : (kind : PageKind) (size : ℕ) (c : Contents) (p : PageData) → size < 2 ^ 16 → PageFits kind size p → page_in kind size (written c 0 (page_front p)) ≡ Ok p
  -- a sector is read exactly if it has the form, and the page that is read is the one that stands there
  pub only : (kind : PageKind) (size : ℕ) (c : Contents) (p : PageData) → length c ≡ sector_size → Bytes c → page_in kind size c ≡ Ok p → PageFits kind size p × (c ≡ written c 0 (page_front p))
  -- a page that was read can be written and read again
  pub again : (kind : PageKind) (size : ℕ) (c : Contents) (p : PageData) → size < 2 ^ 16 → length c ≡ sector_size → Bytes c → page_in kind size c ≡ Ok p → page_in kind size (page_bytes p) ≡ Ok p
  -- a page of at most 24 entries fills no more than a sector
  pub fits : (kind : PageKind) (size : ℕ) (p : PageData) → PageFits kind size p → length (page_bytes p) ≡ sector_size
