-- What is known of a store besides its contracts: it keeps packets in the order of COUNT.
use Rattle.std.proofs.Common.{ℕ, zero, suc, ◌+◌, Some, None, Option, arith}
use Rattle.pdcp.proofs.Orders.{Ascending, lower}
use Rattle.pdcp.specs.Places.{noted, listed, under}
use Rattle.pdcp.specs.Stores.{held_in, stored_of}
use Rattle.pdcp.specs.declared.stores.Store.{Store}
use Rattle.protocol.specs.Bytes.{Bytes}

listed_rises : (f : ℕ → Option Bytes) (n from : ℕ) → Ascending from (listed f n from)
listed_rises f zero from = tt
listed_rises f (suc n) from = go (f from) (listed_rises f n (suc from))
  where
    go : (o : Option Bytes) → Ascending (suc from) (listed f n (suc from)) → Ascending from (noted o from (listed f n (suc from)))
    go None up = lower (suc from) from (listed f n (suc from)) (omega arith) up
    go (Some packet) up = (omega arith, lower (suc from) (from + 1) (listed f n (suc from)) (omega arith) up)

pub store_rises : (s : Store) → Ascending 0 (stored_of s)
unfolding held_in
store_rises s = lower s.first 0 (listed (under s.places) 16 s.first) (omega arith) (listed_rises (under s.places) 16 s.first)
