pub mod Root
pub mod RootCall
pub mod Ones
pub mod Quotient
pub mod Divide
pub mod DivideCall
pub mod Greatest
pub mod Kit
