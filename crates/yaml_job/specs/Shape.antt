-- The shape of a job, over tokens: a grammar of its own, with the seeds that it holds.
-- Where two lists of tokens stand, the second is what is left behind the first's beginning.
use Rattle.std.specs.Prelude.{◌*◌, ◌+◌, ◌≤◌, ℕ, List, [], ◌++◌, ◌∷◌, ◌≡◌}
use Rattle.yaml_text.specs.Char.{'0'}
use Rattle.yaml_text.specs.Utf8.{encode}
use Rattle.yaml_lexeme.specs.declared.Style.{Style}
use Rattle.yaml_lexeme.specs.declared.Style.TheVariants.{Plain}
use Rattle.yaml_lexeme.specs.Token.{BlockMappingStart, FlowEntry, FlowMappingStart, FlowSequenceEnd, FlowSequenceStart, Key, Kind, Scalar, StreamEnd, StreamStart, Token, Value}
use Rattle.yaml_job.specs.declared.Field.{Field}
use Rattle.yaml_job.specs.declared.Field.TheVariants.{Panel, Sample, Seeds}
use Rattle.yaml_job.specs.declared.Form.{Form}
use Rattle.yaml_job.specs.declared.Form.TheVariants.{Block, Braces}
use Rattle.yaml_job.specs.Job.{end_of, most_seed, spelled}

-- these digits say v: one digit, or one more behind a number other than 0
pub data Decimal : List ℕ → ℕ → Type 0 where
  digit : {d : ℕ} → d ≤ 9 → Decimal (('0' + d) ∷ []) d
  further : {ds : List ℕ} {v d : ℕ} → Decimal ds v → 1 ≤ v → d ≤ 9 → Decimal (ds ++ (('0' + d) ∷ [])) (v * 10 + d)

abbrev pub Is : Kind → Token → Type 0
Is k t = t.kind ≡ k

abbrev pub IsScalar : Token → Type 0
IsScalar t = (s : Style) × (text : List ℕ) × (t.kind ≡ Scalar s text)

-- a seed of value v
abbrev pub IsSeed : Token → ℕ → Type 0
IsSeed t v = (text : List ℕ) × (t.kind ≡ Scalar Plain text) × Decimal (encode text) v × (v ≤ most_seed)

-- a name: known by its text, in any style
abbrev pub Names : Field → Token → Type 0
Names f t = (s : Style) × (text : List ℕ) × (t.kind ≡ Scalar s text) × (encode text ≡ spelled f)

-- seeds? with seeds = seed ( ',' seed )* ','?
pub data Entries : List Token → List ℕ → List Token → Type 0 where
  no_seed : {us : List Token} → Entries us [] us
  last_seed : {t : Token} {v : ℕ} {us : List Token} → IsSeed t v → Entries (t ∷ us) (v ∷ []) us
  next_seed : {t c : Token} {v : ℕ} {vs : List ℕ} {ts us : List Token} → IsSeed t v → Is FlowEntry c → Entries ts vs us → Entries (t ∷ c ∷ ts) (v ∷ vs) us

-- one scalar; or the list in its brackets
pub data ValueOf : Field → List Token → List ℕ → List Token → Type 0 where
  sample_text : {t : Token} {us : List Token} → IsScalar t → ValueOf Sample (t ∷ us) [] us
  panel_text : {t : Token} {us : List Token} → IsScalar t → ValueOf Panel (t ∷ us) [] us
  seed_list : {b e : Token} {vs : List ℕ} {ts us : List Token} → Is FlowSequenceStart b → Entries ts vs (e ∷ us) → Is FlowSequenceEnd e → ValueOf Seeds (b ∷ ts) vs us

pub data FieldOf : Field → List Token → List ℕ → List Token → Type 0 where
  field : {f : Field} {k t v : Token} {vs : List ℕ} {ts us : List Token} → Is Key k → Names f t → Is Value v → ValueOf f ts vs us → FieldOf f (k ∷ t ∷ v ∷ ts) vs us

-- in a block field*; in braces fields? with fields = field ( ',' field )* ','?
pub data Fields : Form → List Field → List Token → List ℕ → List Token → Type 0 where
  no_field : {g : Form} {us : List Token} → Fields g [] us [] us
  next_field : {f : Field} {fs : List Field} {vs ws : List ℕ} {ts us rest : List Token} → FieldOf f ts vs us → Fields Block fs us ws rest
      → Fields Block (f ∷ fs) ts (vs ++ ws) rest
  last_field : {f : Field} {vs : List ℕ} {ts us : List Token} → FieldOf f ts vs us → Fields Braces (f ∷ []) ts vs us
  comma_field : {c : Token} {f : Field} {fs : List Field} {vs ws : List ℕ} {ts us rest : List Token}
      → FieldOf f ts vs (c ∷ us) → Is FlowEntry c → Fields Braces fs us ws rest → Fields Braces (f ∷ fs) ts (vs ++ ws) rest

abbrev pub start_of : Form → Kind
start_of Block = BlockMappingStart
start_of Braces = FlowMappingStart

-- how often a field is there
abbrev pub one_if : Field → Field → ℕ
one_if Sample Sample = 1
one_if Sample Panel = 0
one_if Sample Seeds = 0
one_if Panel Sample = 0
one_if Panel Panel = 1
one_if Panel Seeds = 0
one_if Seeds Sample = 0
one_if Seeds Panel = 0
one_if Seeds Seeds = 1

unfoldable pub times : Field → List Field → ℕ
times f [] = 0
times f (g ∷ fs) = one_if f g + times f fs

-- the whole, each field once: the tokens ts hold the seeds vs, and us are left behind StreamEnd
pub data Shape : List Token → List ℕ → List Token → Type 0 where
  shape : {g : Form} {s b e z : Token} {fs : List Field} {vs : List ℕ} {ts us : List Token}
      → Is StreamStart s → Is (start_of g) b → Fields g fs ts vs (e ∷ z ∷ us) → Is (end_of g) e → Is StreamEnd z
      → ((f : Field) → times f fs ≡ 1) → Shape (s ∷ b ∷ ts) vs us
