pub mod House
pub mod Soft
pub mod Fillets
pub mod Quotients
