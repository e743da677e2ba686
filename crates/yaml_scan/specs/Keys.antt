-- K2: simple keys.
use Rattle.std.specs.Prelude.{◌+◌, Bool, ◌||◌, false, not, true, List, [], ◌∷◌, ltb, drop}
use Rattle.yaml_text.specs.declared.Mark.{Mark}
use Rattle.yaml_text.specs.Refusal.{Read, ◌>>=◌, got, need}
use Rattle.yaml_scan.specs.declared.Candidate.{Candidate}
use Rattle.yaml_scan.specs.declared.Candidate.TheVariants.{Absent, Possible}

-- the candidate of the current level: one is kept per level, the current level's first, so the list is never empty
unfoldable pub top_key : List Candidate → Candidate
top_key [] = Absent
top_key (k ∷ ks) = k

abbrev pub set_key : Candidate → List Candidate → List Candidate
set_key k ks = k ∷ drop 1 ks

unfoldable pub is_required : Candidate → Bool
is_required Absent = false
is_required (Possible required n k) = required

-- the line of the candidate's mark k is over at the mark m, or 1,024 characters are [B12]
unfoldable pub stale : Mark → Mark → Bool
stale k m = ltb k.line m.line || ltb (k.index + 1024) m.index

-- at level 0, before each token; 41: a required key lapses [B5, B6]
unfoldable pub lapse : Mark → Candidate → Read Candidate
lapse m Absent = got Absent
lapse m (Possible required n k) =
    elim (stale k m) [
      | true ↦ need (not required) 41 m >>= λ _. got Absent
      | false ↦ got (Possible required n k)
    ]
