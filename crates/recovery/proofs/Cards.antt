-- What the calls owe is met on small disks.
use Rattle.std.proofs.Common.{◌≡◌, ℕ, zero, suc, ◌+◌, ◌^◌, ◌-◌, ◌<◌, ◌≤◌, min, false, ◌⊎◌, List, [], ◌∷◌, ◌++◌, length, get_or, take, replicate, sym, refl, ap, ◌∙◌, subst, inl, inr, arith}
use Rattle.numbers.specs.Order.{cmp}
use Rattle.numbers.specs.Lengths.{place, header_size, last_sector, tables}
use Rattle.numbers.specs.Sectors.{address}
use Rattle.layout.specs.Words.{blank as zeros, written}
use Rattle.layout.specs.Headers.{header_bytes}
use Rattle.tree.specs.Tree.{Good}
use Rattle.disk.specs.Meaning.{Contents, In}
use Rattle.disk.specs.Rules.{Settled}
use Rattle.catalog.specs.Catalogs.{Extent, Catalog, plain_tree, range, byte_at, bytes_of, Distinct}
use Rattle.catalog.specs.Lays.{PageAt, FileAt, Lays, root_sector}
use Rattle.catalog.specs.Laws.{here, FileFits}
use Rattle.catalog.specs.Written.{header_of}
use Rattle.catalog.proofs.Written.{head-written}
use Rattle.promise.specs.Table.{Anonymous, Registered, Rider, Write, no_slots}
use Rattle.promise.specs.Ledger.{Ledger, from, breaks}
use Rattle.promise.specs.Promise.{Among, Agrees}
use Rattle.recovery.specs.Picks.{with_sector}
use Rattle.recovery.specs.Turning.{empty_root, empty_catalog, FormatOwes}
use Rattle.recovery.specs.Harmless.{sector_of, Writing}
use Rattle.recovery.specs.Owed.{Before, DeleteOwes, RegisterOwes, CloseOwes}
use Rattle.recovery.specs.Cards.{eleven, holding, name_a, page_a, root_a, catalog_a, short, longer, head_a, knowing, named_a, slot_a, seven_closed, seven_open, longer_shown, longer_closed}
use Rattle.recovery.proofs.Wider.{breaks-wider}
use Rattle.recovery.proofs.Calls.{closed-agrees, long_of}
use Rattle.recovery.proofs.Agreement.{settled-steady, steady-recoverable, wider-agrees}
use Rattle.recovery.proofs.Turning.{empty-page, empty-agrees}

-- PAGES AND FIRST SECTORS
page_a-laid : PageAt 0 root_a page_a
unfolding zeros
page_a-laid = (refl, refl, refl, refl, (refl, refl, refl, tt))

one : (P : ℕ → Type 0) (k : ℕ) → P k → (t : ℕ) → In t (k ∷ []) → P t
one P k p t i = elim i [ inl e ↦ subst P (sym e) p | inr z ↦ absurd z ]

-- the header of a file without tables, as it is written, is read again
headed : (s : ℕ → Contents) (x : Extent) → FileFits name_a x → get_or x.parts 0 0 ≡ 2 → length x.parts ≤ 64 → take header_size (s 2) ≡ header_bytes (header_of name_a x) → FileAt s 2 x
headed s x f e n h = head-written s 2 name_a x f (record { first = e; head = h; far = λ k j u v. absurd (omega arith) })

short-fits : (n : ℕ) → n ≤ 672 → FileFits name_a (short n)
short-fits n u = record {
  short = omega arith;
  fits = omega arith;
  parts = omega arith;
  tabs = let e : last_sector n ≡ 0 = omega arith in sym (ap tables e);
  small = λ s i. elim i [ inl j ↦ one (λ z. address z < 2 ^ 32) 2 (omega arith) s j | inr j ↦ absurd j ];
}

longer-fits : FileFits name_a longer
longer-fits = record {
  short = omega arith;
  fits = omega arith;
  parts = refl;
  tabs = refl;
  small = λ s i. elim i [ inl j ↦ elim j [ inl e ↦ omega arith | inr k ↦ one (λ z. address z < 2 ^ 32) 3 (omega arith) s k ] | inr j ↦ absurd j ];
}

head-empty : take header_size (head_a (short 0) []) ≡ header_bytes (header_of name_a (short 0))
unfolding zeros
head-empty = refl

head-seven : take header_size (head_a (short 1) (7 ∷ [])) ≡ header_bytes (header_of name_a (short 1))
unfolding zeros
head-seven = refl

head-longer : take header_size (head_a longer []) ≡ header_bytes (header_of name_a longer)
unfolding zeros
head-longer = refl

seven-laid : (s : ℕ → Contents) → s 2 ≡ head_a (short 1) (7 ∷ []) → FileAt s 2 (short 1)
seven-laid s e = headed s (short 1) (short-fits 1 (omega arith)) refl (omega arith) (ap (λ (z : Contents). take header_size z) e ∙ head-seven)

seven-bytes : (s : ℕ → Contents) → s 2 ≡ head_a (short 1) (7 ∷ []) → bytes_of s (short 1) ≡ 7 ∷ []
unfolding bytes_of range zeros
seven-bytes s e = ap (λ (z : Contents). get_or z 352 0 ∷ []) e

no-bytes : (s : ℕ → Contents) → bytes_of s (short 0) ≡ []
unfolding bytes_of range
no-bytes s = refl

-- CATALOGS
good_a : (x : Extent) → Good cmp (plain_tree (catalog_a x))
good_a x = record { rises = (tt, tt); few = omega arith; filled = (omega arith, omega arith, tt, (tt, tt)) }

lays_a : (s : ℕ → Contents) (x : Extent) → s 1 ≡ root_a → FileAt s 2 x → Distinct (1 ∷ (x.parts ++ (x.tabs ++ []))) → ((t : ℕ) → In t (1 ∷ (x.parts ++ (x.tabs ++ []))) → (1 ≤ t) × (t < 11)) → Lays 11 s (catalog_a x)
lays_a s x e f d w = record {
  root = refl;
  good = good_a x;
  names = (refl, tt);
  pages = (subst (λ (z : Contents). PageAt 0 z page_a) (sym e) page_a-laid, (tt, (tt, tt)));
  files = (f, tt);
  once = d;
  within = w;
}

one-two : Distinct (1 ∷ (2 ∷ []))
one-two = (λ i. elim i [ inl e ↦ omega arith | inr z ↦ z ], (λ i. i, tt))

within-two : (t : ℕ) → In t (1 ∷ (2 ∷ [])) → (1 ≤ t) × (t < 11)
within-two t i = elim i [ inl e ↦ (omega arith, omega arith) | inr j ↦ one (λ z. (1 ≤ z) × (z < 11)) 2 (omega arith, omega arith) t j ]

-- BEFORE THE PUT
settled : (s : ℕ → Contents) → Settled (eleven s)
settled s k x i e = elim e [ inl q ↦ q | inr z ↦ absurd z ]

pub before : (l : Ledger) (c : Catalog) (s : ℕ → Contents) → Agrees l 11 s c → Before l c (eleven s)
before l c s a = record { shows = λ k i. inl refl; settled = settled s; steady = settled-steady l c (eleven s) (settled s) a }

seven-agrees : Agrees (knowing named_a seven_closed no_slots) 11 (holding root_a (head_a (short 1) (7 ∷ []))) (catalog_a (short 1))
seven-agrees = record {
  lays = lays_a s (short 1) refl (seven-laid s refl) one-two within-two;
  names = refl;
  files = ((refl, subst (λ (z : List ℕ). Among z ((7 ∷ []) ∷ [])) (sym (seven-bytes s refl)) (inl refl, tt)), tt);
}
  where
    s : ℕ → Contents
    s = holding root_a (head_a (short 1) (7 ∷ []))

pub delete_card : DeleteOwes (knowing named_a seven_closed no_slots) name_a (eleven (holding root_a (head_a (short 1) (7 ∷ [])))) (catalog_a (short 1)) empty_catalog empty_root
delete_card = record {
  before = before _ _ _ seven-agrees;
  directory = record {
    root = refl;
    good = record { rises = tt; few = omega arith; filled = (omega arith, omega arith, tt, tt) };
    pages = (empty-page, (tt, tt));
    distinct = (λ i. i, tt);
    inside = one (λ z. (1 ≤ z) × (z < 11)) 1 (omega arith, omega arith);
    apart = one (λ z. In z (2 ∷ []) → ⊥) 1 (λ i. elim i [ inl e ↦ omega arith | inr z ↦ z ]);
  };
  names = refl;
  files = refl;
}

pub register_card : RegisterOwes (knowing [] seven_open (slot_a Anonymous)) 0 (eleven (holding empty_root (head_a (short 1) (7 ∷ [])))) empty_catalog (catalog_a (short 1)) (short 1) 2 root_a
register_card = record {
  before = before _ _ _ (record { lays = (empty-agrees 11 s (omega arith) refl).lays; names = refl; files = tt });
  directory = record {
    root = refl;
    good = good_a (short 1);
    pages = (page_a-laid, (tt, (tt, tt)));
    distinct = (λ i. i, tt);
    inside = one (λ z. (1 ≤ z) × (z < 11)) 1 (omega arith, omega arith);
    apart = λ t i j. j;
  };
  names = refl;
  files = refl;
  name = refl;
  laid = seven-laid s' refl;
  bytes = seven-bytes s' refl;
  owned = record {
    distinct = (λ i. i, tt);
    inside = λ t i. elim i [ inl j ↦ one (λ z. (1 ≤ z) × (z < 11)) 2 (omega arith, omega arith) t j | inr j ↦ absurd j ];
    apart = λ t i. elim i [ inl j ↦ one (λ z. In z (1 ∷ []) → ⊥) 2 (λ k. elim k [ inl e ↦ omega arith | inr z ↦ z ]) t j | inr j ↦ absurd j ];
  };
  known = omega arith;
  alone = λ e i. absurd i;
}
  where
    s : ℕ → Contents
    s = holding empty_root (head_a (short 1) (7 ∷ []))

    s' : ℕ → Contents
    s' = with_sector s root_sector root_a

pub close_card : CloseOwes (knowing named_a seven_open (slot_a Registered)) 0 0 (eleven (holding root_a (head_a (short 0) []))) (catalog_a (short 0)) (short 1) 2 (head_a (short 1) (7 ∷ []))
close_card = record {
  before = before _ _ _ (record {
    lays = lays_a s (short 0) refl (headed s (short 0) (short-fits 0 (omega arith)) refl (omega arith) head-empty) one-two within-two;
    names = refl;
    files = ((refl, subst (λ (z : List ℕ). Among z []) (sym (no-bytes s)) tt), tt);
  });
  here = omega arith;
  first = refl;
  laid = seven-laid s' refl;
  bytes = seven-bytes s' refl;
  owned = record {
    distinct = (λ i. i, tt);
    inside = λ t i. elim i [ inl j ↦ one (λ z. (1 ≤ z) × (z < 11)) 2 (omega arith, omega arith) t j | inr j ↦ absurd j ];
    apart = λ t i. elim i [ inl j ↦ one (λ z. In z (1 ∷ []) → ⊥) 2 (λ k. elim k [ inl e ↦ omega arith | inr z ↦ z ]) t j | inr j ↦ absurd j ];
  };
  known = omega arith;
  named = refl;
  alone = λ e i. absurd i;
}
  where
    s : ℕ → Contents
    s = holding root_a (head_a (short 0) [])

    s' : ℕ → Contents
    s' = with_sector s 2 (head_a (short 1) (7 ∷ []))

pub format_card : FormatOwes (knowing named_a seven_closed no_slots) (eleven (holding root_a (head_a (short 1) (7 ∷ [])))) empty_root
format_card = record {
  some = λ k i. (s k, inl refl);
  recovers = steady-recoverable (knowing named_a seven_closed no_slots) (catalog_a (short 1)) (eleven s) (before (knowing named_a seven_closed no_slots) (catalog_a (short 1)) s seven-agrees).steady;
  root = refl;
}
  where
    s : ℕ → Contents
    s = holding root_a (head_a (short 1) (7 ∷ []))

-- WRITE
pub zeros-at : (n i : ℕ) → ◌≡◌ {A = ℕ} (get_or (replicate n 0) i 0) 0
zeros-at zero i = refl
zeros-at (suc n) zero = refl
zeros-at (suc n) (suc i) = zeros-at n i

one-three : Distinct (1 ∷ (2 ∷ (3 ∷ [])))
one-three = (
  λ i. elim i [ inl e ↦ omega arith | inr j ↦ elim j [ inl e ↦ omega arith | inr z ↦ z ] ],
  (λ i. elim i [ inl e ↦ omega arith | inr z ↦ z ], (λ i. i, tt)),
)

within-three : (t : ℕ) → In t (1 ∷ (2 ∷ (3 ∷ []))) → (1 ≤ t) × (t < 11)
within-three t i = elim i [
  | inl e ↦ (omega arith, omega arith)
  | inr j ↦ elim j [ inl e ↦ (omega arith, omega arith) | inr k ↦ one (λ z. (1 ≤ z) × (z < 11)) 3 (omega arith, omega arith) t k ]
]

longer-bytes : length (bytes_of longer_shown longer) ≡ 673
unfolding bytes_of
longer-bytes = long_of (byte_at longer_shown longer) 0 673

seven-first : written zeros 0 (7 ∷ []) ≡ 7 ∷ replicate 1023 0
unfolding zeros
seven-first = refl

zeros-are : zeros ≡ replicate 1024 0
unfolding zeros
zeros-are = refl

write-new : (f p : ℕ) → f ≡ 672 → f ≤ p → p < f + 1 → get_or (written zeros 0 (7 ∷ [])) (place p).1 0 ≡ get_or (7 ∷ []) (p - f) 0
write-new f p e u v =
    let g : (place p).1 ≡ 0 = omega arith in
    let h : p - f ≡ 0 = omega arith in
    ap (λ (z : ℕ). get_or (written zeros 0 (7 ∷ [])) z 0) g ∙ (ap (λ (z : List ℕ). get_or z 0 0) seven-first ∙ sym (ap (λ (z : ℕ). get_or (7 ∷ []) z 0) h))

write-past : (k : ℕ) → 1 ≤ k → get_or (written zeros 0 (7 ∷ [])) k 0 ≡ get_or zeros k 0
write-past zero u = absurd (omega arith)
write-past (suc k) u = ap (λ (z : List ℕ). get_or z (suc k) 0) seven-first ∙ (zeros-at 1023 k ∙ sym (ap (λ (z : List ℕ). get_or z (suc k) 0) zeros-are ∙ zeros-at 1024 (suc k)))

write-old : (f p : ℕ) → f ≡ 672 → (place p).0 ≡ 1 → (p < f) ⊎ (f + 1 ≤ p) → get_or (written zeros 0 (7 ∷ [])) (place p).1 0 ≡ get_or (longer_shown (sector_of longer p)) (place p).1 0
write-old f p e q o =
    let u : 1 ≤ (place p).1 = elim o [ inl i ↦ omega arith | inr i ↦ omega arith ] in
    let d : sector_of longer p ≡ 3 = ap (λ (z : ℕ). get_or (2 ∷ 3 ∷ []) z 0) q in
    write-past (place p).1 u ∙ sym (ap (λ (z : ℕ). get_or (longer_shown z) (place p).1 0) d)

pub write_card : Writing (knowing named_a longer_closed (slot_a Registered)) (record { slot = 0; place = 672; end = false }) (7 ∷ []) 11 longer_shown (catalog_a longer) (name_a, 0) longer 1 (written zeros 0 (7 ∷ []))
write_card = record {
  agrees = wider-agrees l (breaks l (Write r (7 ∷ []))) 11 longer_shown (catalog_a longer) (breaks-wider l (Write r (7 ∷ []))) (record {
    lays = lays_a longer_shown longer refl (headed longer_shown longer longer-fits refl (omega arith) head-longer) one-three within-three;
    names = refl;
    files = (closed-agrees longer_shown (record { bytes = bytes_of longer_shown longer; closed = 0; possible = [] }) longer refl, tt);
  });
  named = here;
  file = refl;
  known = omega arith;
  past = omega arith;
  inside = omega arith;
  new = λ p n q u v. write-new (from l r) p is u v;
  old = λ p n q o. write-old (from l r) p is q o;
}
  where
    l : Ledger
    l = knowing named_a longer_closed (slot_a Registered)

    r : Rider
    r = record { slot = 0; place = 672; end = false }

    is : from l r ≡ 672
    is = ap (λ (z : ℕ). min 672 z) longer-bytes
