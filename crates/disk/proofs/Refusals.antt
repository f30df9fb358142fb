-- A disk that answers a call by itself and changes nothing keeps the rules.
use Rattle.std.proofs.Common.{◌≡◌, ℕ, ◌<◌, ◌≤◌, false, Err, refl, inl, arith}
use Rattle.std.proofs.lemmas.Bool.{both_ways}
use Rattle.disk.specs.declared.fault.Layer.{Layer}
use Rattle.disk.specs.declared.fault.DiskFault.{DiskFault}
use Rattle.disk.specs.Faults.{outside, gone}
use Rattle.disk.specs.Meaning.{Contents, Meaning, Sound}
use Rattle.disk.specs.Rules.{Gets, Puts, Settles}

-- a fault f that a function made
module _ (m : Meaning) (sound : Sound m) {l : Layer} {f : DiskFault} where
  module _ {n : ℕ} where
    pub gets-outside : f ≡ outside l n → {old : Contents} → m.size ≤ n → Gets m n old (Err f) m old
    gets-outside e {old} h = rw e (record {
      answer = record { why = record { beyond = h; sector = refl; same = refl }; untouched = refl };
      size = refl;
      shows = λ k lt. refl;
      fewer = λ k x lt i. i;
      calm = record { stays = λ e. e; accepts = λ e due. let d = due.1 in absurd (omega arith) };
      sound = sound;
    })

    pub puts-outside : f ≡ outside l n → {bytes : Contents} → m.size ≤ n → Puts m n bytes (Err f) m
    puts-outside e {bytes} h = rw e (record {
      answer = record { beyond = h; sector = refl; same = refl };
      size = refl;
      others = λ k lt ne. refl;
      adds = λ k x lt i. inl i;
      calm = record { stays = λ e. e; accepts = λ e due. let d = due.1 in absurd (omega arith) };
      sound = sound;
    })

    pub gets-gone : f ≡ gone l n → m.live ≡ false → {old : Contents} → n < m.size → Gets m n old (Err f) m old
    gets-gone e dead {old} h = rw e (record {
      answer = record { why = record { inside = h; lost = dead }; untouched = refl };
      size = refl;
      shows = λ k lt. refl;
      fewer = λ k x lt i. i;
      calm = record { stays = λ e. e; accepts = λ e due. absurd (both_ways m.live dead due.0) };
      sound = sound;
    })

    pub puts-gone : f ≡ gone l n → m.live ≡ false → {bytes : Contents} → n < m.size → Puts m n bytes (Err f) m
    puts-gone e dead {bytes} h = rw e (record {
      answer = record { inside = h; lost = dead };
      size = refl;
      others = λ k lt ne. refl;
      adds = λ k x lt i. inl i;
      calm = record { stays = λ e. e; accepts = λ e due. absurd (both_ways m.live dead due.0) };
      sound = sound;
    })

  pub settles-gone : f ≡ gone l 0 → m.live ≡ false → Settles m (Err f) m
  settles-gone e dead = rw e (record {
    answer = dead;
    size = refl;
    shows = λ k lt. refl;
    fewer = λ k x lt i. i;
    calm = record { stays = λ e. e; accepts = λ e due. absurd (both_ways m.live dead due) };
    sound = sound;
  })
