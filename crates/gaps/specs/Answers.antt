-- What a reader of places answers, put together from the laws of what it did.
use Rattle.std.specs.Prelude.{◌≤◌, ℕ, Bool, List, ◌≡◌, Result, Ok, Err}
use Rattle.std.proofs.Common.{◌∙◌, arith}
use Rattle.std.proofs.Math.Path.{ap, sym}
use Rattle.yaml_text.specs.declared.Mark.{Mark}
use Rattle.yaml_text.specs.declared.Refusal.{Refusal}
use Rattle.yaml_text.specs.Mark as definition
use Rattle.yaml_text.specs.Refusal.{Read, got, refused}
use Rattle.yaml_lexeme.specs.Gap as gap
use Rattle.chars.specs.declared.mark.Place.{Place}
use Rattle.chars.specs.View.{Moves, Stands, view}
use Rattle.reading.specs.Reading.{ReachesAs, seen_place}
use Rattle.gaps.specs.declared.Gap.{Gap}
use Rattle.gaps.specs.Gap.{GapEnds, Skips, seen_gap}
use Rattle.gaps.specs.Walk.{Walks}

module _ {text : List ℕ} {p : Place} {r : Result Place Refusal} {d : Read definition.Place} where
  -- a place is reached
  pub reaches_to : {q : Place} {e : definition.Place} → r ≡ Ok q → Moves text p q e → d ≡ got e → ReachesAs text p r d
  unfolding seen_place
  reaches_to f m e = rw f (record { same = ap got m.same ∙ sym e; onward = (m.stands, m.onward) })

  -- or a refusal
  pub reaches_refused : {n : ℕ} {m : Mark} → r ≡ Err (record { number = n; mark = m }) → d ≡ refused n m → ReachesAs text p r d
  unfolding seen_place
  reaches_refused f e = rw f (record { same = sym e; onward = tt })

-- the same taken apart
pub reached_to : {text : List ℕ} {p q : Place} {r : Result Place Refusal} {d : Read definition.Place} → ReachesAs text p r d → r ≡ Ok q
    → (d ≡ got (view text q)) × Stands text q × (p.at ≤ q.at)
unfolding seen_place
reached_to w e = (sym (rw e at w.same), (rw e at w.onward).0, (rw e at w.onward).1)

pub reached_refused : {text : List ℕ} {p : Place} {r : Result Place Refusal} {d : Read definition.Place} {f : Refusal} → ReachesAs text p r d → r ≡ Err f
    → d ≡ refused f.number f.mark
unfolding seen_place
reached_refused w e = sym (rw e at w.same)

module _ {text : List ℕ} {p : Place} {r : Result Gap Refusal} {d : Read gap.Gap} where
  -- a gap's end
  pub skips_to : {a l : Bool} → r ≡ Ok (record { place = p; simple_key_allowed = a; leading_whitespace = l }) → Stands text p
      → d ≡ got (record { place = view text p; simple_key_allowed = a; leading_whitespace = l }) → Skips text p r d
  unfolding seen_gap
  skips_to f h e = rw f (record { same = sym e; onward = (h, omega arith) })

  -- or a refusal
  pub skips_refused : {n : ℕ} {m : Mark} → r ≡ Err (record { number = n; mark = m }) → d ≡ refused n m → Skips text p r d
  unfolding seen_gap
  skips_refused f e = rw f (record { same = sym e; onward = tt })

onward_from : (text : List ℕ) (start p : Place) (r : Result Gap Refusal) → start.at ≤ p.at → GapEnds text p r → GapEnds text start r
onward_from text start p (Ok g) h k = (k.0, omega (arith, h, k.1))
onward_from text start p (Err f) h k = tt

-- the end of a loop that began at `start`
pub skips_from : {text : List ℕ} {start p : Place} {r : Result Gap Refusal} {x y : Read gap.Gap} → Walks text start p x y → Skips text p r y → Skips text start r x
skips_from {text} {start} {p} {r} w k = record { same = k.same ∙ sym w.same; onward = onward_from text start p r w.onward k.onward }
