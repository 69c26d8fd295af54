pub mod Refusal
pub mod Holding
pub mod Laws
pub mod Calls
pub mod OneProof
