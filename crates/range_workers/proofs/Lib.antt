pub mod CutsLemmas
pub mod DrawnLemmas
