-- A store on a disk that was just formatted: a run begins with it, and a Start follows.
use Rattle.std.proofs.Common.{◌≡◌, ℕ, zero, suc, ◌+◌, ◌<◌, ◌≤◌, Bool, true, false, cond, ltb, List, [], ◌∷◌, ◌++◌, map, length, get_or, None, Some, Ok, sym, refl, ap, ◌∙◌, subst, inl, inr, arith}
use Rattle.std.proofs.lemmas.Bool.{ltb-true}
use Rattle.std.specs.Str.{bytes_eq}
use Rattle.numbers.specs.Names.{Key}
use Rattle.layout.specs.Words.{blank as zeros}
use Rattle.tree.specs.Tree.{Tree, to_list, Entry}
use Rattle.tree.specs.Fresh.{changed}
use Rattle.disk.specs.Meaning.{Contents, In, Whole, Sound}
use Rattle.catalog.specs.Catalogs.{outside, page_sectors, Extent, Row, plain_tree, overlaid, Catalog, Distinct, range, member, entries, bytes_of}
use Rattle.catalog.specs.Lays.{root_sector}
use Rattle.catalog.specs.Laws.{Sized}
use Rattle.catalog.specs.Questions.{found}
use Rattle.catalog.proofs.Counts.{member-false, in-occ, length-range}
use Rattle.catalog.proofs.Found.{found-laid-both, unique}
use Rattle.promise.specs.declared.fault.FileFault.{FileFault}
use Rattle.promise.specs.declared.fault.FileFault.TheVariants.{Waiting}
use Rattle.promise.specs.Table.{changes, Done, No, no_slots, formatted, started, Proper, done, New, Names, Named, Turn, said, first, ◌else◌, plain, records, Table, Answer}
use Rattle.promise.specs.Table.{done as start_done}
use Rattle.promise.specs.Ledger.{Ledger, blank, renumbered, refilled, restarted}
use Rattle.promise.specs.Promise.{Agrees, name_of}
use Rattle.promise.specs.Promise.{formatted as run_formatted}
use Rattle.promise.specs.Calls.{OpenAs, seen, uses, Turned, Did, Holds, Starts, DirectoryPut}
use Rattle.promise.proofs.Granted.{plain-accepts}
use Rattle.promise.proofs.Slots.{no-slot}
use Rattle.promise.proofs.Ledgers.{blank-sane}
use Rattle.promise.proofs.StayTogether.{formats}
use Rattle.recovery.specs.Picks.{with_sector}
use Rattle.recovery.specs.Turning.{empty_root, empty_catalog}
use Rattle.recovery.specs.Owed.{Before}
use Rattle.recovery.specs.Kept.{Kept, Runs}
use Rattle.recovery.specs.Cards.{eleven, holding, fresh}
use Rattle.recovery.proofs.Lists.{in_split}
use Rattle.recovery.proofs.Steps.{one-or, sector-here, sector-apart}
use Rattle.recovery.proofs.Wider.{not-both}
use Rattle.recovery.proofs.Agreement.{steady-recoverable}
use Rattle.recovery.proofs.Turning.{empty-agrees}
use Rattle.recovery.proofs.Cards.{before}

shown : ℕ → Contents
shown = holding empty_root zeros

agrees : Agrees blank 11 (holding empty_root zeros) empty_catalog
agrees = empty-agrees 11 (holding empty_root zeros) (omega arith) refl

-- COMPUTED. Numbers that stand once, and bytes that fit
once : List ℕ → Bool
once [] = true
once (x ∷ xs) = cond (member x xs) false (once xs)

once-distinct : (xs : List ℕ) → once xs ≡ true → Distinct xs
unfolding once
once-distinct [] e = tt
once-distinct (x ∷ xs) e = go (member x xs) refl e (once-distinct xs)
  where
    go : (v : Bool) → member x xs ≡ v → cond v false (once xs) ≡ true → (once xs ≡ true → Distinct xs) → Distinct (x ∷ xs)
    go true q h d = not-both false refl h
    go false q h d = (λ i. let u = in-occ x xs i in let w = member-false x xs q in omega (arith, u, w), d h)

fits : List ℕ → Bool
fits [] = true
fits (x ∷ xs) = cond (ltb x 256) (fits xs) false

fits_at : (xs : List ℕ) → fits xs ≡ true → (i : ℕ) → get_or xs i 0 < 256
unfolding fits
fits_at [] e i = omega arith
fits_at (x ∷ xs) e i = go (ltb x 256) refl e i (fits_at xs)
  where
    go : (v : Bool) → ltb x 256 ≡ v → cond v (fits xs) false ≡ true → (j : ℕ) → (fits xs ≡ true → (k : ℕ) → get_or xs k 0 < 256) → get_or (x ∷ xs) j 0 < 256
    go true q h zero d = ltb-true x 256 q
    go true q h (suc j) d = d h j
    go false q h j d = not-both false refl h

-- THE TABLE
range-within : (low n s : ℕ) → In s (range low n) → (low ≤ s) × (s < low + n)
unfolding range
range-within low zero s i = absurd i
range-within low (suc n) s (inl e) = (omega arith, omega arith)
range-within low (suc n) s (inr i) = let r = range-within (suc low) n s i in (omega (arith, r.0), omega (arith, r.1))

proper : Proper (formatted 11)
proper = record {
  eight = refl;
  handles = λ s x e. absurd (no-slot s x e);
  one = λ s h x y e. absurd (no-slot s x e);
  lengths = λ n. (omega arith, omega arith);
  good = record { rises = tt; few = omega arith; filled = (omega arith, omega arith, tt, tt) };
  names = λ e i. absurd i;
  held = λ s x e. absurd (no-slot s x e);
  single = λ e d i. absurd i;
  apart = λ s x e. absurd (no-slot s x e);
  room = omega arith;
}

holds : Holds fresh (formatted 11)
unfolding once range
holds = record {
  size = refl;
  ready = refl;
  live = refl;
  slots = refl;
  free = length-range 2 9;
  catalog = empty_catalog;
  lays = agrees.lays;
  tree = refl;
  named = tt;
  extents = [];
  open' = tt;
  grown = λ x y i j. absurd j;
  apart = once-distinct (fresh.free ++ (1 ∷ [])) refl;
  inside = λ s i. elim (in_split s fresh.free [] i) [ inl j ↦ range-within 2 9 s j | inr z ↦ absurd z ];
  proper = proper;
}

-- THE STORE
steady : Before blank empty_catalog (eleven (holding empty_root zeros))
steady = before blank empty_catalog (holding empty_root zeros) agrees

kept : Kept blank fresh
unfolding holds
kept = record {
  sane = blank-sane;
  recovers = steady-recoverable blank empty_catalog fresh.disk steady.steady;
  ready = λ e. record { table = formatted 11; holds = holds; together = formats 11; steady = steady.steady };
}

-- A RUN
not-no : {A : Type 0} (r : _) → Done ≡ No r → A
not-no r e = let z : ◌≡◌ {A = ℕ} 0 1 = cc in absurd (omega arith)

pub run_card : Runs blank fresh
run_card = run_formatted {v = fresh} (record {
  turns = λ t. (formatted 11, done refl, refl, λ e. holds);
  root = λ e. (refl, steady.settled);
  small = λ e. refl;
  answered = λ e. record { lost = (λ x. sym x, λ x. sym x); accepts = λ m d. refl; calm = λ m. m; size = refl };
  dead = λ e. e;
  size = refl;
  begins = λ e. kept;
  keeps = λ l r k e. not-no r e;
})

-- A START
shown-all : (P : Contents → Type 0) → P empty_root → P zeros → (k : ℕ) → P (holding empty_root zeros k)
shown-all P p q k = elim (one-or k 2) [
  | inl e ↦ subst P (sym (sector-here (with_sector (λ n. zeros) root_sector empty_root) 2 zeros k e)) q
  | inr e ↦ subst P (sym (sector-apart (with_sector (λ n. zeros) root_sector empty_root) 2 zeros k e)) (elim (one-or k root_sector) [
    | inl f ↦ subst P (sym (sector-here (λ n. zeros) root_sector empty_root k f)) p
    | inr f ↦ subst P (sym (sector-apart (λ n. zeros) root_sector empty_root k f)) q
  ])
]

zeros-whole : Whole zeros
unfolding zeros fits
zeros-whole = record { long = refl; bytes = fits_at zeros refl }

root-whole : Whole empty_root
unfolding zeros fits
root-whole = record { long = refl; bytes = fits_at empty_root refl }

whole : (k : ℕ) → Whole (holding empty_root zeros k)
whole = shown-all Whole root-whole zeros-whole

sized : Sized 11 (holding empty_root zeros)
sized k i = (whole k).long

sound : Sound fresh.disk
sound = record {
  shows = λ y k i. inl refl;
  some = λ k i. (holding empty_root zeros k, inl refl);
  whole = λ k x i j. elim j [ inl e ↦ subst Whole (sym e) (whole k) | inr z ↦ absurd z ];
}

founds : found 11 (holding empty_root zeros) ≡ Ok empty_catalog
founds = (found-laid-both 11 (holding empty_root zeros) empty_catalog sized).1 (refl, agrees.lays)

nameless : (ns : List (Entry Key)) → [] ≡ map name_of ns → ns ≡ []
nameless [] e = refl
nameless (n ∷ ns) e = let z : ◌≡◌ {A = ℕ} 0 1 = cc in absurd (omega arith)

restarted-none : (l : Ledger) (xs : List (List ℕ)) (ns : List (Entry Key)) → ns ≡ [] → ◌≡◌ {A = Ledger} (record { names = renumbered 0 ns; files = refilled l ns xs; slots = no_slots; broken = None; wiped = false }) blank
restarted-none l xs ns e = ap (λ (z : List (Entry Key)). record { names = renumbered 0 z; files = refilled l z xs; slots = no_slots; broken = None; wiped = false }) e

goes-on : (l : Ledger) (c : Catalog) (xs : List (List ℕ)) → Agrees l 11 (holding empty_root zeros) c → Kept (restarted l xs) fresh
goes-on l c xs a =
    let e = unique 11 (holding empty_root zeros) c empty_catalog sized refl a.lays agrees.lays in
    let n = subst (λ (z : Catalog). map name_of (entries z) ≡ map name_of l.names) e a.names in
    subst (λ (z : Ledger). Kept z fresh) (sym (restarted-none l xs l.names (nameless l.names n))) kept

pub start_card : Starts Kept fresh Done fresh
start_card = record {
  turns = λ t. (started 11 (holding empty_root zeros) empty_catalog, start_done empty_catalog founds, refl, λ e. holds);
  small = λ e. refl;
  answered = λ e. record { lost = (λ x. sym x, λ x. sym x); accepts = λ m d. refl; calm = λ m. m; size = refl };
  size = refl;
  fewer = λ k x u i. i;
  sound = λ g. sound;
  picked = λ g y. (steady.settled, λ n i. inl refl);
  keeps = λ l r k e. not-no r e;
  goes_on = λ l l' c k e r a. goes-on l' c (map (bytes_of (holding empty_root zeros)) c.files) a;
}

-- A CALL: the names are listed into no records
asked-ready : (b : Bool) → b ≡ true → first ((b else Waiting) ∷ []) ≡ None
asked-ready b e = subst (λ (z : Bool). first ((z else Waiting) ∷ []) ≡ None) (sym e) refl

not-new : {A : Type 0} (n : Key) → Names [] ≡ New n → A
not-new n e = let z : ◌≡◌ {A = ℕ} 0 1 = cc in absurd (omega arith)

named-no : {A : Type 0} (r : FileFault) → Named 0 [] ≡ No r → A
named-no r e = let z : ◌≡◌ {A = ℕ} 0 1 = cc in absurd (omega arith)

named-done : {A : Type 0} → Named 0 [] ≡ Done → A
named-done e = let z : ◌≡◌ {A = ℕ} 0 1 = cc in absurd (omega arith)

none-some : {A : Type 0} (s : ℕ) → None ≡ Some s → A
none-some s e = let z : ◌≡◌ {A = ℕ} 0 1 = cc in absurd (omega arith)

-- no file is open
unopened : (t : Table) (xs : List Extent) → OpenAs (seen fresh) t fresh.slots xs → xs ≡ []
unopened t [] o = refl
unopened t (x ∷ xs) o = absurd o

catalog-is : (t : Table) (h : Holds fresh t) → h.catalog ≡ empty_catalog
catalog-is t h = unique 11 (holding empty_root zeros) h.catalog empty_catalog sized refl h.lays agrees.lays

uses-are : (t : Table) (h : Holds fresh t) → uses t h.catalog h.extents ≡ uses t empty_catalog []
uses-are t h = ap (λ (c : Catalog). uses t c h.extents) (catalog-is t h) ∙ ap (λ (xs : List Extent). uses t empty_catalog xs) (unopened t h.extents h.open')

moved-none : (t : Table) (h g : Holds fresh t) → length (outside (page_sectors h.catalog) (page_sectors g.catalog)) ≡ changes t t.tree
moved-none t h g =
    ap (λ (c : Catalog). length (outside (page_sectors c) (page_sectors g.catalog))) (catalog-is t h) ∙
    (ap (λ (c : Catalog). length (outside (page_sectors empty_catalog) (page_sectors c))) (catalog-is t g) ∙
    sym (ap (λ (x : Tree Key). changed bytes_eq x x) (sym h.tree ∙ ap (λ (c : Catalog). plain_tree c) (catalog-is t h))))

directory : (t : Table) (h g : Holds fresh t) → DirectoryPut h.catalog fresh.disk.shown fresh.disk.shown g.catalog
directory t h g = subst (λ (c : Catalog). DirectoryPut h.catalog fresh.disk.shown fresh.disk.shown c) (sym (catalog-is t g)) (inl refl, (tt, tt))

listed : (t : Table) (h : Holds fresh t) → Turned fresh t h (Names []) (Named 0 []) fresh
listed t h = record {
  table = t;
  turn = subst (λ (p : Answer × Table). Turn t (Names []) p.0 p.1) step (said (Names []) 0 refl);
  ready = h.ready;
  holds = λ e. h;
  new = λ n s e. not-new n e;
  took = λ g s i. inr (subst (λ (xs : List ℕ). In s xs) (uses-are t g ∙ sym (uses-are t h)) i);
  freed = λ g s i. inl i;
  answered = record { lost = (λ x. sym x, λ x. sym x); accepts = λ m d. refl; calm = λ m. m; size = refl };
  unput = λ r e. named-no r e;
  settled = λ e. named-done e;
  head = λ s o e. none-some s e;
  others = λ s o e f. (refl, λ x i. i);
  still = λ e. (λ k i. refl, λ k x i j. j);
  unopened = λ e i o. (refl, λ x i. i);
  moved = λ g. moved-none t h g;
  pages = λ g. directory t h g;
}
  where
    tree : t.tree ≡ plain_tree empty_catalog
    tree = sym h.tree ∙ ap (λ (c : Catalog). plain_tree c) (catalog-is t h)

    none : records t ≡ []
    none = ap (λ (x : Tree Key). map (λ (e : Entry Key). record { name = e.0; first = e.1; long = (t.files e.1).closed }) (to_list x)) tree

    step : plain t 0 (Names []) ≡ (Named 0 [], t)
    step = plain-accepts t 0 (Names []) (asked-ready t.ready (sym h.ready)) ∙ ap (λ (rs : List Row). (Named (length rs) (overlaid rs []), t)) none

pub list_card : Did Kept fresh (Names []) (Named 0 []) fresh
list_card = record {
  waits = λ e. not-both true e refl;
  turns = λ e t h. listed t h;
  size = refl;
  keeps = λ l k. k;
}
