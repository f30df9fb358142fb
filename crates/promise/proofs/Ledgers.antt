-- What the ledger keeps: names, slots, files and their possible bytes.
use Rattle.std.proofs.Common.{◌≡◌, ℕ, zero, suc, ◌+◌, ◌-◌, ◌<◌, ◌≤◌, Bool, true, false, cond, ◌⊎◌, List, [], ◌∷◌, ◌++◌, map, length, get_or, drop, set, is_some, Some, None, Option, sym, refl, ap, ◌∙◌, subst, inl, inr, arith, length-append, length-set}
use Rattle.std.specs.Prelude.{◌≢◌, slice_index, nat_le}
use Rattle.std.proofs.lemmas.List.{length-map, get_or-map}
use Rattle.std.proofs.lemmas.Option.{none-some, same_Some}
use Rattle.numbers.specs.Names.{Key}
use Rattle.numbers.specs.Order.{Cmp, below, same, above, cmp}
use Rattle.tree.specs.Tree.{Entry, pick, Rises}
use Rattle.tree.specs.Laws.{put, without, find}
use Rattle.tree.proofs.Lists.{put-rises, without-rises}
use Rattle.disk.specs.Meaning.{In}
use Rattle.catalog.specs.Catalogs.{Distinct}
use Rattle.promise.specs.Table.{Anonymous, Registered, Slot, the_slot, target, Rider, Call, New, Old, Delete, Set, Read, Write, Register, Close, Names, written, registered, one_more, one_less}
use Rattle.promise.specs.Ledger.{Written, no_file, Ledger, blank, slot_of, numbered, file_of, with_names, with_slot, with_file, closing, carried, from, counts, breaks, file_number, Covers, Legal, Sane}
use Rattle.promise.proofs.Directory.{order}
use Rattle.promise.proofs.Slots.{slot-set, no-slot}
use Rattle.promise.proofs.Entries.{put-in, without-in}
use Rattle.promise.proofs.StayProper.{written-long}

-- BYTES. A Write, byte by byte
laid : ℕ → List ℕ → List ℕ → List ℕ
laid zero w bs = w ++ drop (length w) bs
laid (suc p) w [] = w
laid (suc p) w (b ∷ bs) = b ∷ laid p w bs

laid-is : (p : ℕ) (w bs : List ℕ) → p ≤ length bs → written p w bs ≡ laid p w bs
unfolding laid
laid-is zero w bs h = let e : 0 + length w ≡ length w = omega arith in rw e
laid-is (suc p) w [] h = absurd (omega arith)
laid-is (suc p) w (b ∷ bs) h = let e : suc p + length w ≡ suc (p + length w) = omega arith in rw e (ap (λ (l : List ℕ). b ∷ l) (laid-is p w bs (omega arith)))

carried-long : (p : ℕ) (w : List ℕ) (ps : List (List ℕ)) → length (carried p w ps) ≡ length ps
carried-long p w [] = refl
carried-long zero [] (x ∷ ps) = refl
carried-long zero (b ∷ w) (x ∷ ps) = ap suc (carried-long zero w ps)
carried-long (suc p) w (x ∷ ps) = ap suc (carried-long p w ps)

-- what was possible still is
carried-keeps : (p : ℕ) (w : List ℕ) (ps : List (List ℕ)) (i b : ℕ) → In b (get_or ps i []) → In b (get_or (carried p w ps) i [])
carried-keeps p w [] i b h = h
carried-keeps zero [] (x ∷ ps) i b h = h
carried-keeps zero (c ∷ w) (x ∷ ps) zero b h = inr h
carried-keeps zero (c ∷ w) (x ∷ ps) (suc i) b h = carried-keeps zero w ps i b h
carried-keeps (suc p) w (x ∷ ps) zero b h = h
carried-keeps (suc p) w (x ∷ ps) (suc i) b h = carried-keeps p w ps i b h

-- and so is what was written
carried-own : (p : ℕ) (w bs : List ℕ) (ps : List (List ℕ)) → length ps ≤ length bs → ((i : ℕ) → i < length ps → In (get_or bs i 0) (get_or ps i [])) →
    (i : ℕ) → i < length ps → In (get_or (laid p w bs) i 0) (get_or (carried p w ps) i [])
unfolding laid
carried-own p w bs [] l h i k = absurd (omega arith)
carried-own p w [] (x ∷ ps) l h i k = absurd (omega arith)
carried-own zero [] (b ∷ bs) (x ∷ ps) l h i k = h i k
carried-own zero (c ∷ w) (b ∷ bs) (x ∷ ps) l h zero k = inl refl
carried-own zero (c ∷ w) (b ∷ bs) (x ∷ ps) l h (suc i) k = carried-own zero w bs ps (omega arith) (λ j m. h (suc j) (omega arith)) i (omega arith)
carried-own (suc p) w (b ∷ bs) (x ∷ ps) l h zero k = h zero k
carried-own (suc p) w (b ∷ bs) (x ∷ ps) l h (suc i) k = carried-own p w bs ps (omega arith) (λ j m. h (suc j) (omega arith)) i (omega arith)

pub no_file-covers : Covers no_file
no_file-covers = record { closed = refl; within = omega arith; own = λ p h. absurd (omega arith) }

closing-covers : (x : Written) → Covers (closing x)
closing-covers x = record {
  closed = length-map x.bytes (λ (b : ℕ). b ∷ []);
  within = omega arith;
  own = λ p h. subst (In (slice_index x.bytes p)) (sym (get_or-map (λ (b : ℕ). b ∷ []) x.bytes p 0 [] h)) (inl refl);
}

carried-covers : (x : Written) (p : ℕ) (w : List ℕ) → Covers x → Covers (record { bytes = x.bytes; closed = x.closed; possible = carried p w x.possible })
carried-covers x p w c = record { closed = carried-long p w x.possible ∙ c.closed; within = c.within; own = λ i h. carried-keeps p w x.possible i (slice_index x.bytes i) (c.own i h) }

written-covers : (x : Written) (p : ℕ) (w : List ℕ) → p ≤ length x.bytes → Covers x → Covers (record { bytes = written p w x.bytes; closed = x.closed; possible = carried p w x.possible })
written-covers x p w k c = record {
  closed = carried-long p w x.possible ∙ c.closed;
  within = let l = written-long p w x.bytes k in let m = c.within in omega (arith, l, m);
  own = λ i h. let e = c.closed in let m = c.within in
      subst (λ (l : List ℕ). In (slice_index l i) (get_or (carried p w x.possible) i [])) (sym (laid-is p w x.bytes k)) (carried-own p w x.bytes x.possible (omega (arith, e, m)) (λ j n. c.own j (omega (arith, e, n))) i (omega (arith, e, h)));
}

-- FILES
-- after one was set
pub file_at : (fs : List Written) (k n : ℕ) (w : Written) → ((n ≡ k) × (get_or (set fs k w) n no_file ≡ w)) ⊎ (get_or (set fs k w) n no_file ≡ get_or fs n no_file)
file_at [] k n w = inr refl
file_at (f ∷ fs) zero zero w = inl (refl, refl)
file_at (f ∷ fs) zero (suc n) w = inr refl
file_at (f ∷ fs) (suc k) zero w = inr refl
file_at (f ∷ fs) (suc k) (suc n) w = elim (file_at fs k n w) [ inl q ↦ inl (ap suc q.0, q.1) | inr q ↦ inr q ]

-- after one more without bytes
pub file-more : (fs : List Written) (n : ℕ) → get_or (fs ++ (no_file ∷ [])) n no_file ≡ get_or fs n no_file
file-more [] zero = refl
file-more [] (suc n) = refl
file-more (f ∷ fs) zero = refl
file-more (f ∷ fs) (suc n) = file-more fs n

-- NAMES
pub number_in : (es : List (Entry Key)) (e : Entry Key) → In e es → In e.1 (map file_number es)
number_in [] e i = i
number_in (d ∷ es) e (inl q) = inl (ap file_number q)
number_in (d ∷ es) e (inr j) = inr (number_in es e j)

pub in-number : (es : List (Entry Key)) (n : ℕ) → In n (map file_number es) → (e : Entry Key) × In e es × (e.1 ≡ n)
in-number [] n i = absurd i
in-number (e ∷ es) n (inl q) = (e, inl refl, sym q)
in-number (e ∷ es) n (inr j) = let r = in-number es n j in (r.0, inr r.1, r.2)

one-number : (P : List (Entry Key)) (es : List (Entry Key)) (n : ℕ) → ((e : Entry Key) → In e P → In e es) → (In n (map file_number es) → ⊥) → In n (map file_number P) → ⊥
one-number P es n f h i = let r = in-number P n i in h (subst (λ (m : ℕ). In m (map file_number es)) r.2 (number_in es r.0 (f r.0 r.1)))

without-one : (k : Key) (es : List (Entry Key)) → Distinct (map file_number es) → Distinct (map file_number (without cmp k es))
without-one k [] d = tt
without-one k (e ∷ es) d = go (cmp k e.0) (without-one k es d.1)
  where
    go : (o : Cmp) → Distinct (map file_number (without cmp k es)) → Distinct (map file_number (pick o (e ∷ es) es (e ∷ without cmp k es)))
    go below r = d
    go same r = d.1
    go above r = (one-number (without cmp k es) es e.1 (without-in k es) d.0, r)

put-one : (x : Entry Key) (es : List (Entry Key)) → (In x.1 (map file_number es) → ⊥) → Distinct (map file_number es) → Distinct (map file_number (put cmp x es))
put-one x [] h d = (λ i. i, tt)
put-one x (e ∷ es) h d = go (cmp x.0 e.0) (put-one x es (λ i. h (inr i)) d.1)
  where
    other : In e.1 (map file_number (put cmp x es)) → ⊥
    other i = let r = in-number (put cmp x es) e.1 i in elim (put-in x es r.0 r.1) [
      | inl q ↦ h (inl (sym (ap file_number q) ∙ r.2))
      | inr j ↦ d.0 (subst (λ (m : ℕ). In m (map file_number es)) r.2 (number_in es r.0 j))
    ]

    go : (o : Cmp) → Distinct (map file_number (put cmp x es)) → Distinct (map file_number (pick o (x ∷ e ∷ es) (x ∷ es) (e ∷ put cmp x es)))
    go below r = (h, d)
    go same r = (λ i. h (inr i), d.1)
    go above r = (other, r)

-- SOUND: sane, but for what was broken off
pub record Sound (l : Ledger) : Type 0 where
  pub rises : Rises cmp l.names
  pub one : Distinct (map file_number l.names)
  pub known : (e : Entry Key) → In e l.names → e.1 < length l.files
  pub held : (s : ℕ) (x : Slot) → get_or l.slots s None ≡ Some x → x.file < length l.files
  pub apart : (s : ℕ) (x : Slot) → get_or l.slots s None ≡ Some x → x.sort ≡ Anonymous → (e : Entry Key) → In e l.names → e.1 ≢ x.file
  pub once : (s h : ℕ) (x y : Slot) → get_or l.slots s None ≡ Some x → get_or l.slots h None ≡ Some y → x.file ≡ y.file → s ≡ h
  pub covers : (n : ℕ) → Covers (numbered l n)

pub sound : (l : Ledger) → Sane l → Sound l
sound l v = record { rises = v.rises; one = v.one; known = v.known; held = v.held; apart = v.apart; once = v.once; covers = v.covers }

-- the same names, files and slots, with this broken off
pub sane : (l : Ledger) (o : Option Call) (w : Bool) → ((c : Call) → o ≡ Some c → Legal (record { names = l.names; files = l.files; slots = l.slots; broken = o; wiped = w }) 0 c) → Sound l → Sane (record { names = l.names; files = l.files; slots = l.slots; broken = o; wiped = w })
sane l o w p v = record { rises = v.rises; one = v.one; known = v.known; held = v.held; apart = v.apart; once = v.once; covers = v.covers; pending = p }

-- x may go into slot h
record Fit (l : Ledger) (h : ℕ) (x : Slot) : Type 0 where
  held : x.file < length l.files
  apart : x.sort ≡ Anonymous → (e : Entry Key) → In e l.names → e.1 ≢ x.file
  once : (s : ℕ) (y : Slot) → get_or l.slots s None ≡ Some y → x.file ≡ y.file → s ≡ h

put-slot : (l : Ledger) (h : ℕ) (o : Option Slot) → ((x : Slot) → o ≡ Some x → Fit l h x) → Sound l → Sound (with_slot h o l)
put-slot l h o f n = record {
  rises = n.rises;
  one = n.one;
  known = n.known;
  held = λ s x e. elim (slot-set l.slots h s o x e) [ inl p ↦ (f x p.1).held | inr p ↦ n.held s x p.1 ];
  apart = λ s x e. elim (slot-set l.slots h s o x e) [ inl p ↦ (f x p.1).apart | inr p ↦ n.apart s x p.1 ];
  once = λ s k x y e g q. elim (slot-set l.slots h s o x e) [
    | inl p ↦ elim (slot-set l.slots h k o y g) [ inl r ↦ p.0 ∙ sym r.0 | inr r ↦ absurd (r.0 ((f x p.1).once k y r.1 q)) ]
    | inr p ↦ elim (slot-set l.slots h k o y g) [ inl r ↦ absurd (p.0 ((f y r.1).once s x p.1 (sym q))) | inr r ↦ n.once s k x y p.1 r.1 q ]
  ];
  covers = n.covers;
}

fit_same : (l : Ledger) (h : ℕ) (x y : Slot) → get_or l.slots h None ≡ Some x → y.file ≡ x.file → (y.sort ≡ Anonymous → x.sort ≡ Anonymous) → Sound l → Fit l h y
fit_same l h x y e f g n = record {
  held = subst (λ (z : ℕ). z < length l.files) (sym f) (n.held h x e);
  apart = λ a q i r. n.apart h x e (g a) q i (r ∙ f);
  once = λ s z r q. n.once s h z x r e (sym q ∙ f);
}

put-file : (l : Ledger) (k : ℕ) (w : Written) → Covers w → Sound l → Sound (with_file k w l)
put-file l k w c n = record {
  rises = n.rises;
  one = n.one;
  known = λ e i. subst (λ (z : ℕ). e.1 < z) (sym (length-set l.files k w)) (n.known e i);
  held = λ s x e. subst (λ (z : ℕ). x.file < z) (sym (length-set l.files k w)) (n.held s x e);
  apart = n.apart;
  once = n.once;
  covers = λ m. elim (file_at l.files k m w) [ inl q ↦ subst Covers (sym q.1) c | inr q ↦ subst Covers (sym q) (n.covers m) ];
}

put-names : (l : Ledger) (ns : List (Entry Key)) → Rises cmp ns → Distinct (map file_number ns) → ((e : Entry Key) → In e ns → e.1 < length l.files) →
    ((s : ℕ) (x : Slot) → get_or l.slots s None ≡ Some x → x.sort ≡ Anonymous → (e : Entry Key) → In e ns → e.1 ≢ x.file) → Sound l → Sound (with_names ns l)
put-names l ns r o k a n = record { rises = r; one = o; known = k; held = n.held; apart = a; once = n.once; covers = n.covers }

-- CALLS
new : (l : Ledger) (s : ℕ) (n : Key) → Sound l → Sound (counts l s (New n))
new l s n v = put-slot more s (Some x) (λ y q. subst (Fit more s) (same_Some x y q) (record {
  held = omega (arith, longer);
  apart = λ a e i r. let c = v.known e i in omega (arith, c);
  once = λ t y g r. let c = v.held t y g in absurd (omega (arith, c));
})) (record {
  rises = v.rises;
  one = v.one;
  known = λ e i. let c = v.known e i in omega (arith, longer, c);
  held = λ t x e. let c = v.held t x e in omega (arith, longer, c);
  apart = v.apart;
  once = v.once;
  covers = λ m. subst Covers (sym (file-more l.files m)) (v.covers m);
})
  where
    x : Slot
    x = record { file = length l.files; sort = Anonymous; name = n; handles = 1 }

    more : Ledger
    more = record { names = l.names; files = l.files ++ (no_file ∷ []); slots = l.slots; broken = l.broken; wiped = l.wiped }

    longer : length (l.files ++ (no_file ∷ [])) ≡ length l.files + 1
    longer = length-append l.files (no_file ∷ [])

old : (l : Ledger) (s : ℕ) (n : Key) → Legal l s (Old n) → Sound l → Sound (counts l s (Old n))
old l s n u v = put-slot l s _ (go (get_or l.slots s None) refl) v
  where
    first : Slot
    first = record { file = target (find cmp n l.names); sort = Registered; name = n; handles = 1 }

    go : (o : Option Slot) → get_or l.slots s None ≡ o → (x : Slot) → Some (cond (is_some o) (one_more (the_slot o)) first) ≡ Some x → Fit l s x
    go None e x q =
        let w = u e in
        subst (Fit l s) (same_Some first x q) (record {
          held = subst (λ (z : ℕ). z < length l.files) w.0.2 (v.known w.0.0 w.0.1);
          apart = λ a. cc;
          once = λ t y g r. absurd (w.1 t y g (sym r));
        })
    go (Some y) e x q = subst (Fit l s) (same_Some (one_more y) x q) (fit_same l s y (one_more y) e refl (λ a. a) v)

close : (l : Ledger) (h : ℕ) → Sound l → Sound (with_slot h (one_less (slot_of l h)) l)
close l h v = put-slot l h _ (go (get_or l.slots h None) refl) v
  where
    by : (y : Slot) → get_or l.slots h None ≡ Some y → (b : Bool) (x : Slot) → cond b None (Some (record { file = y.file; sort = y.sort; name = y.name; handles = y.handles - 1 })) ≡ Some x → Fit l h x
    by y e true x q = absurd (none-some x q)
    by y e false x q = subst (Fit l h) (same_Some _ x q) (fit_same l h y _ e refl (λ a. a) v)

    go : (o : Option Slot) → get_or l.slots h None ≡ o → (x : Slot) → one_less (the_slot o) ≡ Some x → Fit l h x
    go None e x q = absurd (none-some x q)
    go (Some y) e x q = by y e (nat_le y.handles 1) x q

delete : (l : Ledger) (n : Key) → Sound l → Sound (with_names (without cmp n l.names) l)
delete l n v = put-names l (without cmp n l.names) (without-rises cmp order n l.names v.rises) (without-one n l.names v.one) (λ e i. v.known e (without-in n l.names e i)) (λ s x e a d i. v.apart s x e a d (without-in n l.names d i)) v

register : (l : Ledger) (h : ℕ) → Legal l 0 (Register h) → Sound l → Sound (counts l 0 (Register h))
register l h u v = put-names m (put cmp e₀ l.names) (put-rises cmp order e₀ l.names v.rises) (put-one e₀ l.names (λ i. let r = in-number l.names (slot_of l h).file i in v.apart h x u.1 u.2 r.0 r.1 (r.2 ∙ file-is)) v.one)
    (λ e i. elim (put-in e₀ l.names e i) [ inl q ↦ subst (λ (z : ℕ). z < length m.files) (sym (ap file_number q ∙ file-is)) (subst (λ (z : ℕ). u.0.file < z) (sym (length-set l.files (slot_of l h).file (closing (file_of l h)))) (v.held h u.0 u.1)) | inr j ↦ w.known e j ]) apart' w
  where
    x : Slot
    x = u.0

    is : slot_of l h ≡ u.0
    is = ap the_slot u.1

    file-is : (slot_of l h).file ≡ u.0.file
    file-is = ap (λ (z : Slot). z.file) is

    e₀ : Entry Key
    e₀ = ((slot_of l h).name, (slot_of l h).file)

    m : Ledger
    m = with_file (slot_of l h).file (closing (file_of l h)) (with_slot h (Some (registered (slot_of l h))) l)

    w : Sound (with_file (slot_of l h).file (closing (file_of l h)) (with_slot h (Some (registered (slot_of l h))) l))
    w = put-file (with_slot h (Some (registered (slot_of l h))) l) (slot_of l h).file (closing (file_of l h)) (closing-covers (file_of l h))
        (put-slot l h _ (λ y q. subst (Fit l h) (same_Some (registered (slot_of l h)) y q) (fit_same l h u.0 (registered (slot_of l h)) u.1 file-is (λ a. cc) v)) v)

    apart' : (s : ℕ) (y : Slot) → get_or (set l.slots h (Some (registered (slot_of l h)))) s None ≡ Some y → y.sort ≡ Anonymous → (e : Entry Key) → In e (put cmp ((slot_of l h).name, (slot_of l h).file) l.names) → e.1 ≢ y.file
    apart' s y c a e i g = elim (slot-set l.slots h s (Some (registered (slot_of l h))) y c) [
      | inl k ↦ let z = ap (λ (z : Slot). z.sort) (same_Some (registered (slot_of l h)) y k.1) in cc
      | inr k ↦ elim (put-in ((slot_of l h).name, (slot_of l h).file) l.names e i) [ inl q ↦ k.0 (v.once s h y u.0 k.1 u.1 (sym g ∙ (ap file_number q ∙ file-is))) | inr j ↦ v.apart s y k.1 a e j g ]
    ]

from-within : (l : Ledger) (r : Rider) → from l r ≤ length (file_of l r.slot).bytes
from-within l r = omega arith

pub counts-sound : (l : Ledger) (s : ℕ) (c : Call) → Legal l s c → Sound l → Sound (counts l s c)
counts-sound l s (New n) u v = new l s n v
counts-sound l s (Old n) u v = old l s n u v
counts-sound l s (Delete n) u v = delete l n v
counts-sound l s (Set h p) u v = v
counts-sound l s (Read r b) u v = v
counts-sound l s (Write r w) u v = put-file l (slot_of l r.slot).file _ (written-covers (file_of l r.slot) (from l r) w (from-within l r) (v.covers (slot_of l r.slot).file)) v
counts-sound l s (Register h) u v = register l h u v
counts-sound l s (Close h) u v = put-file (with_slot h (one_less (slot_of l h)) l) (slot_of l h).file (closing (file_of l h)) (closing-covers (file_of l h)) (close l h v)
counts-sound l s (Names rs) u v = v

-- a Write that was answered 3
pub carried-sound : (l : Ledger) (r : Rider) (w : List ℕ) → Sound l → Sound (breaks l (Write r w))
carried-sound l r w v = put-file l (slot_of l r.slot).file _ (carried-covers (file_of l r.slot) (from l r) w (v.covers (slot_of l r.slot).file)) v

pub blank-sane : Sane blank
blank-sane = record {
  rises = tt;
  one = tt;
  known = λ e i. absurd i;
  held = λ s x e. absurd (no-slot s x e);
  apart = λ s x e a d i q. i;
  once = λ s h x y e f q. absurd (no-slot s x e);
  covers = λ n. no_file-covers;
  pending = λ c e. absurd (none-some c e);
}
