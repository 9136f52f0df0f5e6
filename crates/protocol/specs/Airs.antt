-- What waits in an air, which carries PDUs one way, and what its operations may leave. An air may lose, repeat and
-- reorder. It does not alter a PDU, and lets none out that is 64 or more Puts and Skips old.
use Rattle.std.specs.Prelude.{◌≡◌, ℕ, suc, Bool, cond, ◌&&◌, List, [], ◌∷◌, ◌++◌, length, Some, None, MatchBool, Option, nat_le, nat_lt}
use Rattle.protocol.specs.Bytes.{Bytes, put}

-- a PDU that waits, and the number of Puts and Skips since it was put
pub record Waiting : Type 0 where
  pub pdu : Bytes
  pub age : ℕ

-- xs is what is left of ys when some elements are struck out
pub data Within {A : Type 0} : List A → List A → Type 0 where
  done : Within [] []
  kept : (x : A) {xs ys : List A} → Within xs ys → Within (x ∷ xs) (x ∷ ys)
  struck : (y : A) {xs ys : List A} → Within xs ys → Within xs (y ∷ ys)

-- the lengths that an air carries, in bytes
abbrev pub max_pdu : ℕ
max_pdu = 520

abbrev pub carries : Bytes → Bool
carries pdu = nat_le 1 (length pdu) && nat_le (length pdu) max_pdu

-- an age is below this
abbrev pub age_limit : ℕ
age_limit = 64

-- everything is older by one, and what reaches the limit is lost
abbrev pub aged : List Waiting → List Waiting
aged [] = []
aged (w ∷ ws) =
    cond (nat_lt (suc w.age) age_limit) (record { pdu = w.pdu; age = suc w.age } ∷ aged ws) (aged ws)

-- the most that may wait after a Put: a PDU that the air does not carry acts as Skip
abbrev pub after_put : Bytes → List Waiting → List Waiting
after_put pdu waiting = cond (carries pdu) (aged waiting ++ record { pdu = pdu; age = 0 } ∷ []) (aged waiting)

-- a PDU waits there, at some age
abbrev pub Waits : Bytes → List Waiting → Type 0
Waits pdu waiting = (age : ℕ) × Within (record { pdu = pdu; age = age } ∷ []) waiting

-- what a Take may let out, and leave waiting
abbrev pub LetsOut : Option Bytes → List Waiting → List Waiting → Type 0
LetsOut None before after = Within after before
LetsOut (Some pdu) before after = Waits pdu before × Within after before

-- the draws and buffers that a Take takes
abbrev pub max_draw : ℕ
max_draw = 8191

abbrev pub takes : ℕ → Bytes → Bool
takes draw buffer = nat_le draw max_draw && nat_le max_pdu (length buffer)

-- With another draw or buffer nothing comes out, and nothing changes.
abbrev pub Takes : ℕ → Bytes → Option Bytes → List Waiting → List Waiting → Type 0
Takes draw buffer out before after = MatchBool (takes draw buffer) (LetsOut out before after) ((out ≡ None) × (after ≡ before))

-- the buffer afterwards: the PDU, if any, at its start
abbrev pub laid : Option Bytes → Bytes → Bytes
laid None buffer = buffer
laid (Some pdu) buffer = put pdu buffer
