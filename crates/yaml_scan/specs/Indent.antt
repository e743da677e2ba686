-- K4, K6: the indent stack. An indent is stored as indent + 1, so 0 stands outside every block; `edge` is a column + 1.
use Rattle.std.specs.Prelude.{◌+◌, ℕ, Bool, ◌&&◌, false, not, true, List, [], ◌∷◌, leb, ltb, length}
use Rattle.yaml_text.specs.declared.Mark.{Mark}
use Rattle.yaml_text.specs.Pick.{pick}
use Rattle.yaml_text.specs.Refusal.{Read, ◌>>=◌, got, refused}

pub record Entry : Type 0 where
  -- the indent that is taken back when the entry goes
  pub old : ℕ
  -- whether a BlockEnd is given then
  pub ends : Bool

pub record Indents : Type 0 where
  pub indent : ℕ
  -- the top first
  pub entries : List Entry

abbrev pub indents_of : ℕ → List Entry → Indents
indents_of i es = record { indent = i; entries = es }

-- the top entry ends in BlockEnd
unfoldable pub top_ends : List Entry → Bool
top_ends [] = false
top_ends (e ∷ es) = e.ends

pub record Unrolled : Type 0 where
  -- how many blocks ended
  pub ended : ℕ
  pub indents : Indents

abbrev pub with_end : Bool → Unrolled → Unrolled
with_end ends u = record { ended = pick ends 1 0 + u.ended; indents = u.indents }

-- unroll_indent: entries go while the indent is above the column
unfoldable pub unroll : ℕ → ℕ → List Entry → Unrolled
unroll edge i [] = record { ended = 0; indents = indents_of i [] }
unroll edge i (e ∷ es) =
    elim (ltb edge i) [
      | true ↦ with_end e.ends (unroll edge e.old es)
      | false ↦ record { ended = 0; indents = indents_of i (e ∷ es) }
    ]

-- 48: the 256th entry [A7]
unfoldable pub stack : ℕ → Mark → ℕ → Bool → Indents → Read Indents
stack room m i ends s =
    elim (ltb (length s.entries) room) [
      | true ↦ got (indents_of i (record { old = s.indent; ends = ends } ∷ s.entries))
      | false ↦ refused 48 m
    ]

-- K4: a non-ending top entry is dropped if the indent is at most the column
unfoldable pub drop_for : ℕ → ℕ → List Entry → Indents
drop_for edge i [] = indents_of i []
drop_for edge i (e ∷ es) = pick (leb i edge && not e.ends) (indents_of e.old es) (indents_of i (e ∷ es))

pub record Rolled : Type 0 where
  -- whether a start token is to be added
  pub starts : Bool
  pub indents : Indents

-- K4, at level 0
unfoldable pub roll : ℕ → Mark → ℕ → Indents → Read Rolled
roll room m edge s =
    let d = drop_for edge s.indent s.entries in
    elim (ltb d.indent edge) [
      | true ↦ stack room m edge true d >>= λ i. got (record { starts = true; indents = i })
      | false ↦ got (record { starts = false; indents = d })
    ]

-- K4: in flow nothing rolls
unfoldable pub roll_at : ℕ → Bool → Mark → ℕ → Indents → Read Rolled
roll_at room flow m edge s =
    elim flow [
      | true ↦ got (record { starts = false; indents = s })
      | false ↦ roll room m edge s
    ]

-- the entries that end no block go, as unroll_non_block_indents has it for a block scalar [A2]
unfoldable pub drop_non_ending : ℕ → List Entry → Indents
drop_non_ending i [] = indents_of i []
drop_non_ending i (e ∷ es) =
    elim e.ends [
      | true ↦ indents_of i (e ∷ es)
      | false ↦ drop_non_ending e.old es
    ]
