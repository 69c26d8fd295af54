pub mod Negatives
pub mod NegativesLaws
