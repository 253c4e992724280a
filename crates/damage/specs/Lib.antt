-- Files that were damaged.
pub mod Damage
