pub mod Due
pub mod Shown
pub mod Laws
pub mod ChainDue
pub mod Named
pub mod ChainShown
pub mod ChainLaws
