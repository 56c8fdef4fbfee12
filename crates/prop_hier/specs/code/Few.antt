-- Numbers of parts that leave room for one more.
use Rattle.std.specs.Prelude.{ℕ, ◌<◌, ◌^◌}
use Rattle.prop_hier.specs.declared.counts.Counts.{Counts}

pub record AreFew (n : Counts) : Type 0 where
  pub there : n.there < 2 ^ 32
  pub starts_before : n.starts_before < 2 ^ 32
  pub ends_after : n.ends_after < 2 ^ 32
  pub clashes : n.clashes < 2 ^ 32
  pub may_start : n.may_start < 2 ^ 32
  pub may_end : n.may_end < 2 ^ 32
  pub may_match : n.may_match < 2 ^ 32

pub record AreBelow (most : ℕ) (n : Counts) : Type 0 where
  pub there : n.there < most
  pub starts_before : n.starts_before < most
  pub ends_after : n.ends_after < most
  pub clashes : n.clashes < most
  pub may_start : n.may_start < most
  pub may_end : n.may_end < most
  pub may_match : n.may_match < most
