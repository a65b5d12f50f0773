-- Who is in a set with one more choice: `lists` says it.
pub use Rattle.lists.proofs.Sets.{list_all-from_has as all_own, has-filter_back}
pub use Rattle.lists.proofs.With.{has-with_new, has-with_old, has-with_cases, list_all-with_new as all_with_new, list_all-with_old as all_with_old}
