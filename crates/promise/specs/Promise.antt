-- The promise over power stops: what a Start finds, whatever calls came before it, whichever disk calls were gone and whatever a restart
-- picked.
use Rattle.std.specs.Prelude.{◌≡◌, ℕ, Bool, true, false, List, [], ◌∷◌, map, Ok, Option}
use Rattle.numbers.specs.Names.{Key}
use Rattle.tree.specs.Tree.{Entry}
use Rattle.disk.specs.Meaning.{Contents, Meaning, In}
use Rattle.disk.specs.Rules.{Fewer}
use Rattle.catalog.specs.Catalogs.{Extent, Catalog, entries, bytes_of, Divided}
use Rattle.catalog.specs.Lays.{Lays}
use Rattle.catalog.specs.Questions.{found}
use Rattle.promise.specs.declared.fault.FileFault.{FileFault}
use Rattle.promise.specs.Table.{Slot, Call, Answer, Done, No}
use Rattle.promise.specs.Ledger.{Written, Ledger, blank, file_by, follow, wiping, Resolves, restarted}

-- an open file in memory: its slot, its length L, and its first sector, which only Register and Close put
pub record Open : Type 0 where
  pub slot : Slot
  pub long : ℕ
  pub first : Contents

-- all that a store is: what it has in memory, and the disk below it
pub record View : Type 0 where
  pub ready : Bool
  pub slots : List (Option Open)
  pub free : List ℕ
  pub disk : Meaning

-- each byte is a possible one, and there are as many as the closed length
abbrev pub Among : List ℕ → List (List ℕ) → Type 0
Among [] [] = Unit {0}
Among [] (p ∷ ps) = ⊥
Among (b ∷ bs) [] = ⊥
Among (b ∷ bs) (p ∷ ps) = In b p × Among bs ps

-- the file found has the ledger's closed length and possible bytes
abbrev pub FileAgrees : (ℕ → Contents) → Written → Extent → Type 0
FileAgrees shown w x = (x.long ≡ w.closed) × Among (bytes_of shown x) w.possible

-- the ledger's names and the files found, one by one
abbrev pub FilesAgree : (ℕ → Contents) → Ledger → List (Entry Key) → List Extent → Type 0
FilesAgree shown l [] [] = Unit {0}
FilesAgree shown l [] (x ∷ xs) = ⊥
FilesAgree shown l (n ∷ ns) [] = ⊥
FilesAgree shown l (n ∷ ns) (x ∷ xs) = FileAgrees shown (file_by l n) x × FilesAgree shown l ns xs

abbrev pub name_of : Entry Key → Key
name_of e = e.0

-- the contents of a disk of that size lay the catalog c, with exactly the ledger's names, each with its file
pub record Agrees (l : Ledger) (size : ℕ) (shown : ℕ → Contents) (c : Catalog) : Type 0 where
  pub lays : Lays size shown c
  pub names : map name_of (entries c) ≡ map name_of l.names
  pub files : FilesAgree shown l l.names c.files

-- an accepted Start that leaves v, after a run whose ledger is l: the ledger with the broken-off call followed or not, the catalog
-- found, that the two agree, and that the sectors divide
pub record Finds (l : Ledger) (v : View) : Type 0 where
  pub counted : Ledger
  pub resolves : Resolves l counted
  pub catalog : Catalog
  pub finds : found v.disk.size v.disk.shown ≡ Ok catalog
  pub agrees : Agrees counted v.disk.size v.disk.shown catalog
  pub divided : Divided v.disk.size catalog v.free

-- Formats: a Format, with its answer; Did: one of the other calls but Start, with its answer; Starts: a Start, with its answer
module _ (Formats : View → Answer → View → Type 0) (Did : View → Call → Answer → View → Type 0) (Starts : View → Answer → View → Type 0) where
  -- the calls from an accepted Format on leave this ledger and this store
  pub data Run : Ledger → View → Type 0 where
    formatted : {v v' : View} → Formats v Done v' → Run blank v'
    -- a Format that is refused or gone
    unformatted : {l : Ledger} {v v' : View} {r : FileFault} → Run l v → Formats v (No r) v' → Run (wiping l) v'
    turned : {l : Ledger} {v v' : View} {c : Call} {a : Answer} → Run l v → Did v c a v' → Run (follow l c a) v'
    -- a Start that is refused or gone
    stopped : {l : Ledger} {v v' : View} {r : FileFault} → Run l v → Starts v (No r) v' → Run l v'
    -- an accepted one: from here on the run goes by the ledger that it agreed with, at all later Starts
    started : {l l' : Ledger} {v v' : View} {c : Catalog} → Run l v → Starts v Done v' → Resolves l l' → Agrees l' v'.disk.size v'.disk.shown c →
        Run (restarted l' (map (bytes_of v'.disk.shown) c.files)) v'
    -- the memory is lost, that of the disk's layers too, and a store is made anew over what may be left of the disk
    anew : {l : Ledger} {v v' : View} → Run l v → v'.ready ≡ false → v'.disk.size ≡ v.disk.size → Fewer v.disk v'.disk → Run l v'

  -- THE WHOLE PROMISE, for Start's contract. A disk call that was gone leaves the disk not live, and Start restarts it once, before
  -- all else: so none was gone if the disk is live after it
  pub record Whole (v : View) (a : Answer) (v' : View) : Type 0 where
    pub accepts : (l : Ledger) → Run l v → v'.disk.live ≡ true → a ≡ Done
    pub calm : (l : Ledger) → Run l v → v.disk.calm ≡ true → a ≡ Done
    pub finds : (l : Ledger) → Run l v → a ≡ Done → Finds l v'
