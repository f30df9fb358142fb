-- An image keeps the rules, and does what it says, over the bytes lent to it.
use Rattle.std.proofs.Common.{◌≡◌, ℕ, ◌/◌, ◌<◌, List, [], ◌∷◌, Ok, sym, refl, ap, ◌∙◌, subst, inl, inr, ⊎_elim}
use Rattle.std.proofs.lemmas.Bool.{cases_eq, cond_below}
use Rattle.disk.specs.Meaning.{Contents, Whole, In, Sound}
use Rattle.disk.specs.Rules.{Gets, Puts, Settles, Restarts, Settled}
use Rattle.disk.specs.Rules.Request.{putting}
use Rattle.disk.specs.Sectors.{count, sector, over, written, ImageDoes}
use Rattle.disk.proofs.Bytes.{whole-sector, written-here, written-length, written-others, written-tail}

-- the one member of a set
pub only : {x y : Contents} → In x (y ∷ []) → x ≡ y
only (inl e) = e
only (inr h) = absurd h

module _ (bytes : List ℕ) where
  pub sound-over : Sound (over bytes)
  sound-over = record {
    shows = λ _ k h. inl refl;
    some = λ k h. (sector bytes k, inl refl);
    whole = λ k x h i. subst Whole (sym (only i)) (whole-sector bytes k h);
  }

  settled-over : Settled (over bytes)
  settled-over k x h i = only i

  pub gets-over : (n : ℕ) (old new : Contents) → n < count bytes → new ≡ sector bytes n → Gets (over bytes) n old (Ok tt) (over bytes) new
  gets-over n old new h e = record {
    answer = record { inside = h; was = refl; live = refl; filled = e };
    size = refl;
    shows = λ k lt. refl;
    fewer = λ k x lt i. i;
    calm = record { stays = λ c. c; accepts = λ c due. refl };
    sound = sound-over;
  }

  pub settles-over : Settles (over bytes) (Ok tt) (over bytes)
  settles-over = record {
    answer = record { was = refl; live = refl; settled = settled-over };
    size = refl;
    shows = λ k lt. refl;
    fewer = λ k x lt i. i;
    calm = record { stays = λ c. c; accepts = λ c due. refl };
    sound = sound-over;
  }

  pub restarts-over : Restarts (over bytes) (Ok tt) (over bytes)
  restarts-over = record {
    answer = record { live = refl; picks = λ k lt. inl refl; settled = settled-over };
    size = refl;
    fewer = λ k x lt i. i;
    calm = record { stays = λ c. c; accepts = λ c due. refl };
    sound = sound-over;
  }

module _ (bytes : List ℕ) (n : ℕ) (x : Contents) (inside : n < count bytes) (whole : Whole x) where
  same_count : count (written bytes n x) ≡ count bytes
  same_count = ap (λ l. l / 1024) (written-length bytes x n inside whole)

  module _ {bytes' : List ℕ} (is : bytes' ≡ written bytes n x) where
    pub puts-over : Puts (over bytes) n x (Ok tt) (over bytes')
    puts-over = rw is (record {
      answer = record { inside = inside; was = refl; live = refl; shown = written-here bytes x n inside whole };
      size = same_count;
      others = λ k lt ne. written-others bytes x n inside whole k ne;
      adds = λ k y lt i.
          ⊎_elim
          (λ (e : k ≡ n). inr (e, only i ∙ (ap (sector (written bytes n x)) e ∙ written-here bytes x n inside whole), refl))
          (λ ne. inl (inl (only i ∙ written-others bytes x n inside whole k ne)))
          (cases_eq k n);
      calm = record { stays = λ c. c; accepts = λ c due. refl };
      sound = sound-over (written bytes n x);
    })

    pub does-put : ImageDoes bytes (putting n x) (Ok tt) bytes'
    does-put = rw is (record {
      answers = cond_below n (count bytes) _ _ inside;
      leaves = cond_below n (count bytes) _ _ inside;
      never_gone = tt;
      tail = written-tail bytes x n inside whole;
    })
