-- Texts that are stored one behind another.
use Rattle.std.specs.Prelude.{◌+◌, ℕ, List, [], ◌++◌, ◌≡◌, refl, length}
use Rattle.std.proofs.Common.{◌∙◌, sym, arith, length-append}
use Rattle.std.proofs.Math.Seq.{length-sets}
use Rattle.std.proofs.lemmas.List.Edits.{sets}
use Rattle.rooms.specs.Room.{sets_join}

-- a text was stored from `at` on, as far as there is room, and changed nothing else; r is the place behind it
pub record Written (before : List ℕ) (at : ℕ) (text after : List ℕ) (r : ℕ) : Type 0 where
  pub stored : after ≡ sets before at text
  pub behind : r ≡ at + length text

-- one text behind another is one text
pub written_then : {l m o s t : List ℕ} {at k r : ℕ} → Written l at s m k → Written m k t o r → Written l at (s ++ t) o r
written_then {l} {m} {o} {s} {t} {at} v w =
    record {
      stored = w.stored ∙ rw (v.stored, v.behind) (sets_join s t l at);
      behind = let e = length-append s t in let a = v.behind in let b = w.behind in omega arith;
    }

-- a loop that stores a text by parts: what is left gives the whole
pub record Writing (before : List ℕ) (start : ℕ) (whole out : List ℕ) (at : ℕ) (rest : List ℕ) : Type 0 where
  pub same : length out ≡ length before
  pub stored : sets before start whole ≡ sets out at rest
  pub behind : start + length whole ≡ at + length rest

pub writing_starts : {l t : List ℕ} {at : ℕ} → Writing l at t l at t
writing_starts = record { same = refl; stored = refl; behind = refl }

pub writing_more : {l w m o t rest part : List ℕ} {start at r : ℕ} → Writing l start w m at rest → rest ≡ part ++ t → Written m at part o r
    → Writing l start w o r t
writing_more {m = m} {t = t} {part = part} {at = at} g e v =
    record {
      same = rw v.stored (length-sets m at part ∙ g.same);
      stored = g.stored ∙ rw (e, v.stored, v.behind) (sym (sets_join part t m at));
      behind = let a = rw e at g.behind in let b = v.behind in let d = length-append part t in omega arith;
    }

pub writing_ends : {l w m : List ℕ} {start at : ℕ} → Writing l start w m at [] → Written l start w m at
writing_ends g = record { stored = sym g.stored; behind = let a = g.behind in omega arith }
