-- What a state holds open, and since which token: the brackets and pairs of its levels, the blocks of its indents, and what came behind each candidate (for Nesting).
use Rattle.std.specs.Prelude.{◌<◌, ◌≤◌, ℕ, Bool, List, [], ◌++◌, ◌∷◌, ◌≡◌, refl, length, replicate}
use Rattle.std.proofs.Common.{append_assoc, le_refl, arith}
use Rattle.std.proofs.Math.Seq.{drop-append_seam}
use Rattle.yaml_text.specs.declared.Mark.{Mark}
use Rattle.yaml_text.specs.Pick.{pick}
use Rattle.yaml_text.specs.Mark.{edge_of}
use Rattle.yaml_lexeme.specs.Token.{Token}
use Rattle.yaml_lexeme.specs.Role.{Open, block, flow_mapping}
use Rattle.yaml_scan.specs.declared.Candidate.{Candidate}
use Rattle.yaml_scan.specs.declared.Candidate.TheVariants.{Absent, Possible}
use Rattle.yaml_scan.specs.declared.Level.{Level}
use Rattle.yaml_scan.specs.Indent.{Indents}
use Rattle.yaml_scan.specs.IndentLaws.{blocks_of, innermost}
use Rattle.yaml_scan.specs.Keys.{set_key, top_key}
use Rattle.yaml_scan.specs.State.{Event, put}
use Rattle.yaml_scan.specs.Slots.{Slot, flat, slot, slots}
use Rattle.yaml_scan.specs.Moves.{Tidy, bracket}
use Rattle.theorems.specs.NestedLaws.{Clear, Leads, EventsNest, clear_last, clear_says, clear_within, says_nested, silent, since_says}

-- what a level holds open, the latest first: its bracket, and an implicit pair
abbrev pub held : Level → List Open
held l = pick l.implicit (flow_mapping ∷ []) [] ++ (bracket l.sequence ∷ [])

abbrev pub blocks : Indents → List Open
blocks i = replicate (blocks_of i) block

-- a candidate of level 0, at the mark m: no block stands further in, so none ends while the line goes on
abbrev pub Stays : Indents → Mark → Candidate → Type 0
Stays i m Absent = Unit {0}
Stays i m (Possible required n k) = (innermost i ≤ edge_of k) × (k.line ≤ m.line) × (m.line ≡ k.line → k.col ≤ m.col)

-- a candidate's token is one of the first n, nothing was put in before it, and what comes from it on leaves u open
abbrev pub Since : ℕ → List Open → List Slot → Candidate → Type 0
Since n u xs Absent = Unit {0}
Since n u xs (Possible required k m) = (k < n) × Clear k xs × Leads k u xs

-- the candidates further out have smaller numbers
abbrev pub below : ℕ → Candidate → ℕ
below n Absent = n
below n (Possible required k m) = k

-- the slots xs of a state at the mark m, from one level outward: its candidates, their numbers below n, and its levels; u is what is open further in.
-- What is open behind all: u, what the levels hold, and the blocks
pub data Built (i : Indents) (m : Mark) (xs : List Slot) : List Open → ℕ → List Candidate → List Level → Type 0 where
  outside : {u : List Open} {n : ℕ} {c : Candidate} {ks : List Candidate} → Since n u xs c → Stays i m c → Leads 0 (u ++ blocks i) xs → Built i m xs u n (c ∷ ks) []
  inside : {u : List Open} {n : ℕ} {c : Candidate} {ks : List Candidate} {l : Level} {ls : List Level} → Since n u xs c → Tidy l
      → Built i m xs (u ++ held l) (below n c) ks ls → Built i m xs u n (c ∷ ks) (l ∷ ls)

-- events that make v of u, which is open, whatever was open before u
abbrev pub Turned : List Open → List Event → List Open → Type 0
Turned u es v = (os : List Open) → EventsNest (u ++ os) es (v ++ os)

pub turned_over : {es : List Event} (u v x : List Open) → Turned u es v → Turned (u ++ x) es (v ++ x)
turned_over u v x e os = rw (append_assoc u x os, append_assoc v x os) (e (x ++ os))

pub leads_says : {es : List Event} (k : ℕ) (u v : List Open) (xs : List Slot) → k ≤ length xs → Turned u es v → Leads k u xs → Leads k v (slots xs es)
leads_says k u v xs b e h os = since_says k xs b (h os) (e os)

since_turned : {es : List Event} {n n' : ℕ} (u v : List Open) (xs : List Slot) (c : Candidate) → n ≤ n' → Turned u es v → Since n u xs c → Since n' v (slots xs es) c
since_turned u v xs Absent b e h = tt
since_turned u v xs (Possible required k m) b e h =
    (omega (arith, h.0), clear_says k xs (e []) h.1, leads_says k u v xs (omega (arith, clear_within k xs h.1)) e h.2)

below_less : (n n' : ℕ) (c : Candidate) → n ≤ n' → below n c ≤ below n' c
below_less n n' Absent b = b
below_less n n' (Possible required k m) b = le_refl k

-- the state goes on to another mark; entries that end no block may have come or gone
pub record MovesOn (i : Indents) (m : Mark) (i' : Indents) (m' : Mark) : Type 0 where
  pub same_blocks : blocks_of i' ≡ blocks_of i
  pub stays : (c : Candidate) → Stays i m c → Stays i' m' c

built_on : {i i' : Indents} {m m' : Mark} (xs : List Slot) {es : List Event} (u v : List Open) {n n' : ℕ} {ks : List Candidate} {ls : List Level} → n ≤ n'
    → Turned u es v → MovesOn i m i' m' → Built i m xs u n ks ls → Built i' m' (slots xs es) v n' ks ls
built_on {i} {i'} xs {es = es} u v b e g (outside {c = c} h s l) =
    let k : Leads 0 (v ++ blocks i') (slots xs es) = rw g.same_blocks (leads_says 0 (u ++ blocks i) (v ++ blocks i) xs (omega arith) (turned_over u v (blocks i) e) l) in
    outside (since_turned u v xs c b e h) (g.stays c s) k
built_on xs u v {n = n} {n' = n'} b e g (inside {c = c} {l = l} h t k) =
    inside (since_turned u v xs c b e h) t (built_on xs (u ++ held l) (v ++ held l) (below_less n n' c b) (turned_over u v (held l) e) g k)

pub built_says : {i i' : Indents} {m m' : Mark} {n n' : ℕ} {ks : List Candidate} {ls : List Level} {es : List Event} (u v : List Open) (xs : List Slot) → n ≤ n'
    → Turned u es v → MovesOn i m i' m' → Built i m xs u n ks ls → Built i' m' (slots xs es) v n' ks ls
built_says u v xs b e g h = built_on xs u v b e g h

-- the numbers further out are smaller still
pub below_most : (n : ℕ) (u : List Open) (xs : List Slot) (c : Candidate) → Since n u xs c → below n c ≤ n
below_most n u xs Absent h = le_refl n
below_most n u xs (Possible required k m) h = omega (arith, h.0)

goes_nowhere : {i : Indents} {m : Mark} → MovesOn i m i m
goes_nowhere = record { same_blocks = refl; stays = λ _ h. h }

pub built_more : {i : Indents} {m : Mark} {xs : List Slot} {u : List Open} {n n' : ℕ} {ks : List Candidate} {ls : List Level} → n ≤ n' → Built i m xs u n ks ls → Built i m xs u n' ks ls
unfolding slots
built_more {xs = xs} {u = u} b h = built_says {es = []} u u xs b (λ os. silent) goes_nowhere h

-- without the candidate of this level, or with it written out

pub built_without : {i : Indents} {m : Mark} {xs : List Slot} {u : List Open} {n : ℕ} {ks : List Candidate} {ls : List Level} → Built i m xs u n ks ls → Built i m xs u n (set_key Absent ks) ls
built_without (outside h s l) = outside tt tt l
built_without {xs = xs} {u = u} {n = n} (inside {c = c} h t k) = inside tt t (built_more (below_most n u xs c h) k)

pub built_top : {i : Indents} {m : Mark} {xs : List Slot} {u : List Open} {n : ℕ} {ks : List Candidate} {ls : List Level} → Built i m xs u n ks ls → Built i m xs u n (set_key (top_key ks) ks) ls
unfolding top_key
built_top (outside h s l) = outside h s l
built_top (inside h t k) = inside h t k

-- a token is given, and may be the next candidate
next_since : {n : ℕ} (u : List Open) (t : Token) (xs : List Slot) (required : Bool) (k : Mark) → length xs < n → Turned [] (put t ∷ []) u
    → Since n u (slots xs (put t ∷ [])) (Possible required (length xs) k)
unfolding slots flat
next_since u t xs required k b e = (b, clear_last xs t, λ os. rw (drop-append_seam xs (slot t [] ∷ [])) (says_nested (e os)))

built_with : {i : Indents} {m : Mark} {xs : List Slot} {u : List Open} {n : ℕ} {ks : List Candidate} {ls : List Level} (c : Candidate) → Since n u xs c → (ls ≡ [] → Stays i m c)
    → Built i m xs u (below n c) (Absent ∷ ks) ls → Built i m xs u n (c ∷ ks) ls
built_with c h s (outside _ _ l) = outside h (s refl) l
built_with c h s (inside _ t k) = inside h t k

pub built_saved : {i i' : Indents} {m m' : Mark} {n : ℕ} {ks : List Candidate} {ls : List Level} (u : List Open) (t : Token) (xs : List Slot) (required : Bool) (k : Mark)
    → length xs < n → Turned [] (put t ∷ []) u → MovesOn i m i' m' → (ls ≡ [] → Stays i' m' (Possible required (length xs) k))
    → Built i m xs [] (length xs) ks ls → Built i' m' (slots xs (put t ∷ [])) u n (set_key (Possible required (length xs) k) ks) ls
built_saved u t xs required k b e g s h =
    built_with (Possible required (length xs) k) (next_since u t xs required k b e) s (built_says [] u xs (le_refl (length xs)) e g (built_without h))

-- tokens that leave w open go in before a candidate's, since which all is closed again
