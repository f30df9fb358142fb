-- What a fuse means and does.
use Rattle.std.specs.Prelude.{◌≡◌, ℕ, zero, suc, ◌<◌, ◌≤◌, Bool, false, Ok, Err}
use Rattle.disk.specs.declared.fault.Layer.TheVariants.{Fuse as is_fuse}
use Rattle.disk.specs.Faults.{outside, gone}
use Rattle.disk.specs.Meaning.{Contents, Meaning}
use Rattle.disk.specs.Rules.{Answer, Request}
use Rattle.disk.specs.Rules.Request.{getting, putting, settling, restarting}
use Rattle.layers.specs.declared.fuse.FuseState.{FuseState}
use Rattle.layers.specs.declared.fuse.FuseState.TheVariants.{Counting, Blown, Bypassed}
use Rattle.layers.specs.Layered.{Itself, HandsOn}

-- a fuse over a disk that is live, or not: blown, it is not live
abbrev pub live : FuseState → Bool → Bool
live (Counting k) l = l
live Blown l = false
live Bypassed l = l

-- a fuse over a disk that is calm, or not: while it counts, it is not calm
abbrev pub calm : FuseState → Bool → Bool
calm (Counting k) c = false
calm Blown c = c
calm Bypassed c = c

-- what a fuse means over a disk that means m
abbrev pub fused : FuseState → Meaning → Meaning
fused s m = record { size = m.size; live = live s m.live; calm = calm s m.calm; shown = m.shown; may = m.may }

-- the fuse after a restart: accepted, it lets all pass
abbrev pub restarted : Answer → FuseState → FuseState
restarted (Ok _) s = Bypassed
restarted (Err _) s = s

-- the disk below has N sectors, and does as it says
module _ {D : Type 0} (does : D → Request → Answer → D → Type 0) (N : ℕ) where
  -- a get or a settle: blown, the fuse answers by itself, naming this sector; else it hands it on
  abbrev pub Through : FuseState → Request → ℕ → D → Answer → FuseState → D → Type 0
  Through (Counting k) q n d r s' d' = HandsOn does q (Counting k) d r s' d'
  Through Blown q n d r s' d' = Itself (gone is_fuse n) Blown d r s' d'
  Through Bypassed q n d r s' d' = HandsOn does q Bypassed d r s' d'

  -- a put: the one after those that pass is not asked below, and blows the fuse; one that passes is counted, whatever it is answered
  abbrev pub Counts : FuseState → ℕ → Contents → D → Answer → FuseState → D → Type 0
  Counts (Counting zero) n x d r s' d' = Itself (gone is_fuse n) Blown d r s' d'
  Counts (Counting (suc k)) n x d r s' d' = HandsOn does (putting n x) (Counting k) d r s' d'
  Counts Blown n x d r s' d' = Itself (gone is_fuse n) Blown d r s' d'
  Counts Bypassed n x d r s' d' = HandsOn does (putting n x) Bypassed d r s' d'

  -- a get or put of a sector past the last is answered by the fuse itself
  pub record Inside (n : ℕ) (inside : Type 0) (s : FuseState) (d : D) (r : Answer) (s' : FuseState) (d' : D) : Type 0 where
    pub beyond : N ≤ n → Itself (outside is_fuse n) s d r s' d'
    pub within : n < N → inside

  abbrev pub FuseDoes : FuseState → D → Request → Answer → FuseState → D → Type 0
  FuseDoes s d (getting n) r s' d' = Inside n (Through s (getting n) n d r s' d') s d r s' d'
  FuseDoes s d (putting n x) r s' d' = Inside n (Counts s n x d r s' d') s d r s' d'
  FuseDoes s d settling r s' d' = Through s settling 0 d r s' d'
  FuseDoes s d restarting r s' d' = does d restarting r d' × (s' ≡ restarted r s)
