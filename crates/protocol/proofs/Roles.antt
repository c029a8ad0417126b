-- One worker of the model, as leader and as acceptor, and what the steps do to it.
use Rattle.std.proofs.Common.{ℕ, suc, Bool, true, false, cond, eqb, ltb, Some, None, Option}
use Rattle.std.specs.Option.{option_eq}
use Rattle.protocol.specs.Words.{tally}
use Rattle.protocol.proofs.Put.{put}

-- as acceptor: the seat place that it sits under, its promise, the accepted cells
pub record Seated (L : Type 0) : Type 0 where
  pub s : ℕ
  pub p : ℕ
  pub cells : ℕ → Option L

-- the rest of a worker's record
pub record Leader (L : Type 0) : Type 0 where
  pub r : ℕ
  pub e : ℕ
  pub a : ℕ
  pub c : ℕ
  pub taken : Bool
  pub count : Option ℕ
  pub reported : ℕ → Bool
  pub hand : ℕ → Option L
  pub carried : ℕ → Bool

abbrev pub ready : Option ℕ → (ℕ → Bool) → Bool
ready o f = option_eq eqb o (Some (tally f 64))

module _ {L : Type 0} where
  -- it has read a Lead, and its claim is over
  abbrev pub read_lead : Leader L → Leader L
  read_lead v = record { r = suc v.r; e = v.e; a = v.a; c = 0; taken = false; count = v.count; reported = v.reported; hand = v.hand; carried = v.carried }

  -- it has read or appended a Seat
  abbrev pub read_seat : ℕ → Leader L → Leader L
  read_seat x v = record { r = suc v.r; e = suc v.r; a = x; c = v.c; taken = v.taken; count = v.count; reported = v.reported; hand = v.hand; carried = v.carried }

  -- it has read a Carry
  abbrev pub read_carry : ℕ → L → Leader L → Leader L
  read_carry k l v = record { r = suc v.r; e = v.e; a = v.a; c = v.c; taken = v.taken; count = v.count; reported = v.reported; hand = put v.hand k (Some l); carried = put v.carried k true }

  -- it has appended a Lead
  abbrev pub leads : Leader L → Leader L
  leads v = record { r = suc v.r; e = v.e; a = v.a; c = suc v.r; taken = false; count = None; reported = λ k. false; hand = λ k. cond (v.carried k) (v.hand k) None; carried = v.carried }

  -- it has appended a Carry of a line that it has in hand
  abbrev pub carries : ℕ → Leader L → Leader L
  carries k v = record { r = suc v.r; e = v.e; a = v.a; c = v.c; taken = v.taken; count = v.count; reported = v.reported; hand = v.hand; carried = put v.carried k true }

  -- it takes a line in hand
  abbrev pub takes : ℕ → L → Leader L → Leader L
  takes k l v = record { r = v.r; e = v.e; a = v.a; c = v.c; taken = v.taken; count = v.count; reported = v.reported; hand = put v.hand k (Some l); carried = v.carried }

  -- a count has come, and as many lines are in the set
  abbrev pub settle : Leader L → Leader L
  settle v = record { r = v.r; e = v.e; a = v.a; c = v.c; taken = ready v.count v.reported; count = v.count; reported = v.reported; hand = v.hand; carried = v.carried }

  abbrev pub counts : ℕ → Leader L → Leader L
  counts n v = record { r = v.r; e = v.e; a = v.a; c = v.c; taken = v.taken; count = Some n; reported = v.reported; hand = v.hand; carried = v.carried }

  abbrev pub reports : ℕ → L → Leader L → Leader L
  reports k l v = record { r = v.r; e = v.e; a = v.a; c = v.c; taken = v.taken; count = v.count; reported = put v.reported k true; hand = put v.hand k (Some l); carried = v.carried }

  -- a Prepare or Proposal at (e, c) comes to an acceptor
  abbrev pub sits : ℕ → ℕ → Seated L → Seated L
  sits e c b = record { s = e; p = c; cells = cond (ltb b.s e) (λ k. None) b.cells }

  abbrev pub accepts : ℕ → L → Seated L → Seated L
  accepts k l b = record { s = b.s; p = b.p; cells = put b.cells k (Some l) }
