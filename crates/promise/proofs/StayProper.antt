-- Every call keeps the table proper.
use Rattle.std.proofs.Common.{◌≡◌, ℕ, ◌+◌, ◌-◌, ◌<◌, ◌≤◌, ◌⊎◌, Bool, true, false, cond, not, ◌||◌, List, [], ◌∷◌, ◌++◌, length, get_or, set, is_some, Some, None, Option, sym, refl, ap, ◌∙◌, subst, inl, inr, arith, length-append, length-take, length-drop, length-set}
use Rattle.std.specs.Prelude.{◌==◌, ◌≢◌, nat_le, nat_lt}
use Rattle.std.proofs.lemmas.Option.{none-some, same_Some}
use Rattle.std.proofs.lemmas.Bool.{and_parts, leb-true, leb-false, ltb-true, ltb-false, cond_both, or_right, not-true}
use Rattle.std.proofs.lemmas.Bool.Decides.{nat_tests}
use Rattle.numbers.specs.Names.{Key, good_name}
use Rattle.numbers.specs.Order.{cmp}
use Rattle.numbers.specs.Lengths.{longest}
use Rattle.tree.specs.Tree.{Entry, Tree, Good, to_list, pages}
use Rattle.tree.specs.Laws.{put}
use Rattle.tree.proofs.Insert.{insert-puts}
use Rattle.tree.proofs.Count.{insert-within}
use Rattle.tree.proofs.Delete.{delete-takes}
use Rattle.tree.proofs.Drain.{delete-keeps}
use Rattle.disk.specs.Meaning.{In}
use Rattle.catalog.specs.Questions.{good_size, most_sectors}
use Rattle.promise.specs.Table.{File, Anonymous, Registered, Slot, Table, Rider, Call, New, Old, Delete, Set, Read, Write, Register, Close, Names, Answer, slot_count, most_handles, slot_at, slot, used, file, from, takes, is_anonymous, is_empty, unused, holder, old_file, is_open, with_name, without_name, changes, with_file, with_slot, with_free, with_tree, waits, Format, formatted, empty_file, closed, written, registered, one_more, one_less, before, behind, accepted, Spare, MayTake, Turn, anonymous, Proper}
use Rattle.promise.proofs.Outcomes.{refused, done, broken, outcome}
use Rattle.promise.proofs.Granted.{Granted, granted, used-is, registered-is}
use Rattle.promise.proofs.Directory.{order, pages-after-register, pages-after-delete}
use Rattle.promise.proofs.Accounts.{register-slot}
use Rattle.promise.proofs.Slots.{slot-set, holder-holds, holder-none, anonymous-set, no-slot}
use Rattle.promise.proofs.Entries.{put-in, put-long, without-in, without-long}

-- PARTS. Fewer free sectors; another slot; another file; another tree
pub waits-proper : (t : Table) → Proper t → Proper (waits t)
waits-proper t p = record { eight = p.eight; handles = p.handles; one = p.one; lengths = p.lengths; good = p.good; names = p.names; held = p.held; single = p.single; apart = p.apart; room = p.room }

less-free : (t : Table) (n : ℕ) → n ≤ t.free → Proper t → Proper (with_free n t)
less-free t n h p =
    record { eight = p.eight; handles = p.handles; one = p.one; lengths = p.lengths; good = p.good; names = p.names; held = p.held; single = p.single; apart = p.apart; room = let r = p.room in omega (arith, r) }

-- what may stand in slot h
record Fits (t : Table) (h : ℕ) (x : Slot) : Type 0 where
  handles : (1 ≤ x.handles) × (x.handles ≤ most_handles)
  one : (s : ℕ) (y : Slot) → slot_at t s ≡ Some y → x.file ≡ y.file → s ≡ h
  held : (is_empty x.name || good_name x.name) ≡ true
  apart : x.sort ≡ Anonymous → (e : Entry Key) → In e (to_list t.tree) → e.1 ≢ x.file

abbrev Room : Table → Type 0
Room t = length (to_list t.tree) + anonymous t.slots + pages t.tree + t.free < most_sectors

put-slot : (t : Table) (h : ℕ) (o : Option Slot) → ((x : Slot) → o ≡ Some x → Fits t h x) → Room (with_slot h o t) → Proper t → Proper (with_slot h o t)
put-slot t h o f r p = record {
  eight = length-set t.slots h o ∙ p.eight;
  handles = λ s x e. elim (slot-set t.slots h s o x e) [ inl q ↦ (f x q.1).handles | inr q ↦ p.handles s x q.1 ];
  one = λ s k x y e g q. elim (slot-set t.slots h s o x e) [
    | inl a ↦ elim (slot-set t.slots h k o y g) [ inl b ↦ a.0 ∙ sym b.0 | inr b ↦ absurd (b.0 ((f x a.1).one k y b.1 q)) ]
    | inr a ↦ elim (slot-set t.slots h k o y g) [ inl b ↦ absurd (a.0 ((f y b.1).one s x a.1 (sym q))) | inr b ↦ p.one s k x y a.1 b.1 q ]
  ];
  lengths = p.lengths;
  good = p.good;
  names = p.names;
  held = λ s x e. elim (slot-set t.slots h s o x e) [ inl q ↦ (f x q.1).held | inr q ↦ p.held s x q.1 ];
  single = p.single;
  apart = λ s x e. elim (slot-set t.slots h s o x e) [ inl q ↦ (f x q.1).apart | inr q ↦ p.apart s x q.1 ];
  room = r;
}

-- the same file in the same slot, with handles as they should be and no other sort but registered
same-fits : (t : Table) (h : ℕ) (x y : Slot) → slot_at t h ≡ Some x → y.file ≡ x.file → y.name ≡ x.name → (y.sort ≡ Anonymous → x.sort ≡ Anonymous) → (1 ≤ y.handles) × (y.handles ≤ most_handles) → Proper t → Fits t h y
same-fits t h x y e f n a k p = record {
  handles = k;
  one = λ s z g q. p.one s h z x g e (sym q ∙ f);
  held = subst (λ (m : Key). (is_empty m || good_name m) ≡ true) (sym n) (p.held h x e);
  apart = λ b d i q. p.apart h x e (a b) d i (q ∙ f);
}

put-file : (t : Table) (n : ℕ) (x : File) → (length x.bytes ≤ longest) × (x.closed ≤ length x.bytes) → Proper t → Proper (with_file n x t)
put-file t n x l p = record {
  eight = p.eight;
  handles = p.handles;
  one = p.one;
  lengths = λ m. cond_both (m == n) x (t.files m) (λ (y : File). (length y.bytes ≤ longest) × (y.closed ≤ length y.bytes)) (λ e. l) (λ e. p.lengths m);
  good = p.good;
  names = p.names;
  held = p.held;
  single = p.single;
  apart = p.apart;
  room = p.room;
}

-- CALLS
new : (t : Table) (s : ℕ) (n : Key) → Proper t → Spare t s → Granted (before t (New n)) → Proper (accepted t s (New n)).1
new t s n p m g = put-file (with_slot h (Some x) (with_free (t.free - 1) t)) s empty_file (omega arith, omega arith)
    (put-slot (with_free (t.free - 1) t) h (Some x) (λ y e. subst (Fits (with_free (t.free - 1) t) h) (same_Some x y e) (record {
      handles = (omega arith, omega arith);
      one = λ k y e q. absurd (m.closed k y e (sym q));
      held = g.1.0;
      apart = λ a d i q. m.unnamed d i q;
    })) (let k = leb-true _ _ g.1.1.1.0 in let r = p.room in let a = anonymous-set t.slots h (Some x) in omega (arith, r, a, k)) (less-free t (t.free - 1) (omega arith) p))
  where
    h : ℕ
    h = unused t.slots

    x : Slot
    x = record { file = s; sort = Anonymous; name = n; handles = 1 }

old : (t : Table) (n : Key) → Proper t → good_name n ≡ true → Granted (behind t (Old n)) → Proper (accepted t 0 (Old n)).1
old t n p gn g = go (is_open t n) refl g.1.0
  where
    f : ℕ
    f = old_file t n

    fresh : Slot
    fresh = record { file = f; sort = Registered; name = n; handles = 1 }

    at' : Bool → ℕ
    at' b = cond b (holder f t.slots) (unused t.slots)

    go : (b : Bool) → nat_lt (holder f t.slots) slot_count ≡ b → cond b (nat_lt (slot t (at' b)).handles most_handles) (nat_lt (unused t.slots) slot_count) ≡ true →
        Proper (with_slot (at' b) (Some (cond b (one_more (slot t (at' b))) fresh)) t)
    go true e k =
        let h = holder f t.slots in
        let l = ltb-true h slot_count e in
        let i = p.eight in
        let r = holder-holds f t.slots (omega (arith, l, i)) in
        let u : slot_at t h ≡ Some (slot t h) = used-is (slot_at t h) (ap is_some r.1) in
        let q = ltb-true (slot t h).handles most_handles k in
        let d = p.handles h (slot t h) u in
        put-slot t h (Some (one_more (slot t h))) (λ y c. subst (Fits t h) (same_Some _ y c) (same-fits t h (slot t h) (one_more (slot t h)) u refl refl (λ a. a) (omega (arith, q, d), omega (arith, q, d)) p))
        (let m = p.room in let a = anonymous-set t.slots h (Some (one_more (slot t h))) in let z = ap (λ (o : Option Slot). anonymous (o ∷ [])) u in omega (arith, m, a, z)) p
    go false e k =
        let h = unused t.slots in
        let l = ltb-false (holder f t.slots) slot_count e in
        let i = p.eight in
        put-slot t h (Some fresh) (λ y c. subst (Fits t h) (same_Some _ y c) (record {
          handles = (omega arith, omega arith);
          one = λ s z w q. absurd (holder-none f t.slots (omega (arith, l, i)) s z w (sym q));
          held = or_right (is_empty n) (good_name n) gn;
          apart = λ a. cc;
        })) (let m = p.room in let a = anonymous-set t.slots h (Some fresh) in omega (arith, m, a)) p

put-tree : (t : Table) (u : Tree Key) → Good cmp u → ((e : Entry Key) → In e (to_list u) → good_name e.0 ≡ true) → ((e d : Entry Key) → In e (to_list u) → In d (to_list u) → e.1 ≡ d.1 → e ≡ d) →
    ((s : ℕ) (x : Slot) → slot_at t s ≡ Some x → x.sort ≡ Anonymous → (e : Entry Key) → In e (to_list u) → e.1 ≢ x.file) → Room (with_tree u t) → Proper t → Proper (with_tree u t)
put-tree t u g n s a r p = record { eight = p.eight; handles = p.handles; one = p.one; lengths = p.lengths; good = g; names = n; held = p.held; single = s; apart = a; room = r }

delete-in : (t : Table) (n : Key) → Proper t → (e : Entry Key) → In e (to_list (without_name t n)) → In e (to_list t.tree)
delete-in t n p e i = without-in n (to_list t.tree) e (subst (In e) (delete-takes cmp order t.tree n p.good) i)

deleting : (t : Table) (n : Key) → Proper t → Proper (with_tree (without_name t n) t)
deleting t n p =
    put-tree t (without_name t n) (delete-keeps cmp order t.tree n p.good) (λ e i. p.names e (delete-in t n p e i)) (λ e d i j. p.single e d (delete-in t n p e i) (delete-in t n p d j))
    (λ s x e a d i. p.apart s x e a d (delete-in t n p d i))
    (let r = p.room in let l = pages-after-delete t n p in let k = without-long n (to_list t.tree) in let z = ap length (delete-takes cmp order t.tree n p.good) in omega (arith, r, l, k, z)) p

pub written-long : (p : ℕ) (w bs : List ℕ) → p ≤ length bs → length (written p w bs) ≡ p + (length w + (length bs - (p + length w)))
written-long p w bs h = simp (length-append, length-take, length-drop) (omega arith)

write : (t : Table) (s : ℕ) (r : Rider) (b : List ℕ) → Proper t → Granted (before t (Write r b)) → Proper (accepted t s (Write r b)).1
write t s r b p g =
    let x = file t r.slot in
    let k = from t r in
    let i : from t r ≤ length (file t r.slot).bytes = omega arith in
    let l = leb-true (from t r + length b) longest g.1.1.0 in
    let q = p.lengths (slot t r.slot).file in
    let w = written-long (from t r) b (file t r.slot).bytes i in
    put-file (with_free (t.free - takes t r b) t) (slot t r.slot).file (record { bytes = written k b x.bytes; closed = x.closed }) (omega (arith, l, q, w), omega (arith, l, q, w, i)) (less-free t (t.free - takes t r b) (omega arith) p)

closed-proper : (t t' : Table) (s : ℕ) → Proper t → Proper t' → Proper (with_file (slot t s).file (closed (file t s)) t')
closed-proper t t' s p q = let l = p.lengths (slot t s).file in put-file t' (slot t s).file (closed (file t s)) (l.0, omega arith) q

close : (t : Table) (s : ℕ) → Proper t → Granted (before t (Close s)) → Proper (accepted t 0 (Close s)).1
close t s p g = closed-proper t (with_slot s (one_less (slot t s)) t) s p (put-slot t s (one_less (slot t s)) fits (let m = p.room in let a = anonymous-set t.slots s (one_less (slot t s)) in let z = none (slot t s) sort in omega (arith, m, a, z)) p)
  where
    u : slot_at t s ≡ Some (slot t s)
    u = used-is (slot_at t s) (and_parts (used t s) (not (is_anonymous (slot t s).sort)) g.1.0).0

    sort : (slot t s).sort ≡ Registered
    sort = registered-is (slot t s).sort (not-true _ (and_parts (used t s) (not (is_anonymous (slot t s).sort)) g.1.0).1)

    none : (x : Slot) → x.sort ≡ Registered → anonymous (one_less x ∷ []) ≡ 0
    none x e = cond_both (nat_le x.handles 1) None (Some (record { file = x.file; sort = x.sort; name = x.name; handles = x.handles - 1 })) (λ (o : Option Slot). anonymous (o ∷ []) ≡ 0) (λ h. refl) (λ h. rw e)

    fits : (y : Slot) → one_less (slot t s) ≡ Some y → Fits t s y
    fits y e = go (nat_le (slot t s).handles 1) refl e
      where
        go : (b : Bool) → nat_le (slot t s).handles 1 ≡ b → cond b None (Some (record { file = (slot t s).file; sort = (slot t s).sort; name = (slot t s).name; handles = (slot t s).handles - 1 })) ≡ Some y → Fits t s y
        go true h e = absurd (none-some y e)
        go false h e = let k = leb-false _ _ h in let d = p.handles s (slot t s) u in subst (Fits t s) (same_Some _ y e) (same-fits t s (slot t s) _ u refl refl (λ a. a) (omega (arith, k), omega (arith, k, d)) p)

register : (t : Table) (s : ℕ) → Proper t → Granted (before t (Register s) ++ behind t (Register s)) → Proper (accepted t 0 (Register s)).1
register t s p g = put-tree t2 (with_name t s) (insert-within cmp order t.tree n f p.good (let r = p.room in let c = counts in omega (arith, r, c))) named single apart' room
    (closed-proper t t1 s p (put-slot t s (Some (registered x)) (λ y c. subst (Fits t s) (same_Some _ y c) fits) room1 p))
  where
    x : Slot
    x = slot t s

    n : Key
    n = (slot t s).name

    f : ℕ
    f = (slot t s).file

    t1 : Table
    t1 = with_slot s (Some (registered (slot t s))) t

    t2 : Table
    t2 = with_file (slot t s).file (closed (file t s)) (with_slot s (Some (registered (slot t s))) t)

    u : (slot_at t s ≡ Some (slot t s)) × ((slot t s).sort ≡ Anonymous)
    u = register-slot t s g.1.0

    fits : Fits t s (registered (slot t s))
    fits = same-fits t s (slot t s) (registered (slot t s)) u.0 refl refl (λ a. u.1) (p.handles s (slot t s) u.0) p

    counts : anonymous (set t.slots s (Some (registered (slot t s)))) + 1 ≤ anonymous t.slots
    counts = let a = anonymous-set t.slots s (Some (registered (slot t s))) in let z = ap (λ (o : Option Slot). anonymous (o ∷ [])) u.0 in let k : anonymous (Some (slot t s) ∷ []) ≡ 1 = rw u.1 in omega (arith, a, z, k)

    room1 : Room (with_slot s (Some (registered (slot t s))) t)
    room1 = let r = p.room in let c = counts in omega (arith, r, c)

    puts : to_list (with_name t s) ≡ put cmp ((slot t s).name, (slot t s).file) (to_list t.tree)
    puts = insert-puts cmp order t.tree (slot t s).name (slot t s).file p.good

    parts : (e : Entry Key) → In e (to_list (with_name t s)) → (e ≡ ((slot t s).name, (slot t s).file)) ⊎ In e (to_list t.tree)
    parts e i = put-in ((slot t s).name, (slot t s).file) (to_list t.tree) e (subst (In e) puts i)

    named : (e : Entry Key) → In e (to_list (with_name t s)) → good_name e.0 ≡ true
    named e i = elim (parts e i) [
      | inl q ↦ subst (λ (k : Key). good_name k ≡ true) (sym (ap (λ (d : Entry Key). d.0) q)) (nonempty (slot t s).name (p.held s (slot t s) u.0) (not-true _ g.1.1.0))
      | inr j ↦ p.names e j
    ]
      where
        nonempty : (k : Key) → (is_empty k || good_name k) ≡ true → is_empty k ≡ false → good_name k ≡ true
        nonempty k h e = rw e at h

    single : (e d : Entry Key) → In e (to_list (with_name t s)) → In d (to_list (with_name t s)) → e.1 ≡ d.1 → e ≡ d
    single e d i j q = elim (parts e i) [
      | inl a ↦ elim (parts d j) [ inl b ↦ a ∙ sym b | inr b ↦ absurd (p.apart s (slot t s) u.0 u.1 d b (sym q ∙ ap (λ (z : Entry Key). z.1) a)) ]
      | inr a ↦ elim (parts d j) [ inl b ↦ absurd (p.apart s (slot t s) u.0 u.1 e a (q ∙ ap (λ (z : Entry Key). z.1) b)) | inr b ↦ p.single e d a b q ]
    ]

    apart' : (h : ℕ) (y : Slot) → get_or (set t.slots s (Some (registered (slot t s)))) h None ≡ Some y → y.sort ≡ Anonymous → (e : Entry Key) → In e (to_list (with_name t s)) → e.1 ≢ y.file
    apart' h y c a e i q = elim (slot-set t.slots s h (Some (registered (slot t s))) y c) [
      | inl k ↦ let z = ap (λ (w : Slot). w.sort) (same_Some _ y k.1) in cc
      | inr k ↦ elim (parts e i) [ inl b ↦ k.0 (p.one h s y (slot t s) k.1 u.0 (sym q ∙ ap (λ (z : Entry Key). z.1) b)) | inr b ↦ p.apart h y k.1 a e b q ]
    ]

    room : Room (with_tree (with_name t s) (with_file (slot t s).file (closed (file t s)) (with_slot s (Some (registered (slot t s))) t)))
    room =
        let r = p.room in
        let c = counts in
        let l = pages-after-register t s p u.0 u.1 in
        let b = leb-true (changes t (with_name t s)) t.free g.1.1.1.0 in
        let k = put-long ((slot t s).name, (slot t s).file) (to_list t.tree) in
        let z = ap length puts in
        omega (arith, r, c, l, b, k, z)

accepting : (t : Table) (s : ℕ) (c : Call) → Proper t → MayTake t c s → Granted (before t c ++ behind t c) → Proper (accepted t s c).1
accepting t s (New n) p m g = new t s n p m g
accepting t s (Old n) p m g = old t n p g.1.0 g.1.1
accepting t s (Delete n) p m g = deleting t n p
accepting t s (Set h q) p m g = p
accepting t s (Read r b) p m g = p
accepting t s (Write r b) p m g = write t s r b p g
accepting t s (Register h) p m g = register t h p g
accepting t s (Close h) p m g = close t h p g
accepting t s (Names rs) p m g = p

pub turns : (t t' : Table) (c : Call) (a : Answer) → Proper t → Turn t c a t' → Proper t'
turns t t' c a p u = elim (outcome t u) [
  | refused r e i s ↦ subst Proper (sym s) p
  | done s m b e i ↦ subst Proper (sym i) (accepting t s c p m (granted (before t c ++ behind t c) b))
  | broken b s f i ↦ subst Proper (sym i) (waits-proper t p)
]

-- FORMAT
pub formatted-proper : (size : ℕ) → good_size size ≡ true → Proper (formatted size)
formatted-proper size g = record {
  eight = refl;
  handles = λ s x e. absurd (no-slot s x e);
  one = λ s h x y e f q. absurd (no-slot s x e);
  lengths = λ n. (omega arith, omega arith);
  good = record { rises = tt; few = omega arith; filled = (omega arith, omega arith, tt, tt) };
  names = λ e i. absurd i;
  held = λ s x e. absurd (no-slot s x e);
  single = λ e d i. absurd i;
  apart = λ s x e a d i q. no-slot s x e;
  room = grind (arith, nat_tests, g);
}

pub formats : (size : ℕ) (t t' : Table) (a : Answer) → Proper t → Format size t a t' → Proper t'
formats size t _ _ p (Format.refused h) = waits-proper t p
formats size t _ _ p (Format.gone f c h) = waits-proper t p
formats size t _ _ p (Format.done h) = formatted-proper size h
