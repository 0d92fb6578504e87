-- Theorems that rest on the definitions of specs/.
pub mod Round
pub mod Turn
