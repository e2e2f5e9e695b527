pub mod DeclaredLemmas
