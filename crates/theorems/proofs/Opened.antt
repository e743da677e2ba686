-- Theorems about specs/Opened, and what rests on them.
use Rattle.std.specs.Prelude.{◌≤◌, ℕ, Bool, List, [], ◌++◌, ◌∷◌}
use Rattle.std.proofs.Common.{append_assoc, le_refl, arith}
use Rattle.yaml_text.specs.declared.Mark.{Mark}
use Rattle.yaml_lexeme.specs.Token.{Token}
use Rattle.yaml_lexeme.specs.Role.{Open}
use Rattle.yaml_scan.specs.declared.Candidate.{Candidate}
use Rattle.yaml_scan.specs.declared.Candidate.TheVariants.{Absent, Possible}
use Rattle.yaml_scan.specs.declared.Level.{Level}
use Rattle.yaml_scan.specs.Indent.{Indents}
use Rattle.yaml_scan.specs.Slots.{Slot, note}
use Rattle.theorems.specs.Nested.{Nested}
use Rattle.theorems.specs.NestedLaws.{Clear, Leads, clear_noted}
use Rattle.theorems.proofs.NestedLaws.{since_noted}
use Rattle.theorems.specs.Opened.{held, blocks, Since, below, Built, below_most, built_more, outside, inside}

module _ (k : ℕ) (w : List Open) (ts : List Token) (xs : List Slot) (e : (os : List Open) → Nested os ts (w ++ os)) (clear : Clear k xs) (even : Leads k [] xs) where
  leads_noted : (j : ℕ) (u : List Open) → j ≤ k → Leads j u xs → Leads j (w ++ u) (note k ts xs)
  leads_noted j u b h os = rw append_assoc (since_noted j k w ts xs b e clear even (h os))

  still_since : {n : ℕ} (u : List Open) (c : Candidate) → n ≤ k → Since n u xs c → Since n (w ++ u) (note k ts xs) c
  still_since u Absent b h = tt
  still_since u (Possible required j m) b h = (h.0, clear_noted j k ts xs (omega (arith, h.0)) h.1, leads_noted j u (omega (arith, h.0)) h.2)

  built_noted : {i : Indents} {m : Mark} {u : List Open} {n : ℕ} {ks : List Candidate} {ls : List Level} → n ≤ k → Built i m xs u n ks ls → Built i m (note k ts xs) (w ++ u) n ks ls
  built_noted {i} {u = u} b (outside {c = c} h s l) =
      let j : Leads 0 (w ++ u ++ blocks i) (note k ts xs) = rw append_assoc (leads_noted 0 (u ++ blocks i) (omega arith) l) in
      outside (still_since u c b h) s j
  built_noted {i} {m} {u} {n} {ls = ls} b (inside {c = c} {ks = ks} {l = l} {ls = ls'} h t j) =
      let f : Built i m (note k ts xs) (w ++ u ++ held l) (below n c) ks ls' = rw append_assoc (built_noted (omega (arith, below_most n u xs c h)) j) in
      inside (still_since u c b h) t f

pub built_used : {i : Indents} {m m' : Mark} {xs : List Slot} {required : Bool} {k n : ℕ} {ks : List Candidate} {ls : List Level} (w : List Open) (ts : List Token)
    → ((os : List Open) → Nested os ts (w ++ os)) → Built i m xs [] n (Possible required k m' ∷ ks) ls → Built i m (note k ts xs) w n (Absent ∷ ks) ls
built_used {xs = xs} {k = k} w ts e (outside h s l) = outside tt tt (leads_noted k w ts xs e h.1 h.2 0 _ (omega arith) l)
built_used {xs = xs} {k = k} {n = n} w ts e (inside h t j) =
    let b : k ≤ n = omega (arith, h.0) in
    inside tt t (built_more b (built_noted k w ts xs e h.1 h.2 (le_refl k) j))
