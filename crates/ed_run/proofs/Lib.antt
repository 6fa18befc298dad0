pub mod Ends
pub mod Places
pub mod Later
pub mod Pasts
pub mod Quiet
pub mod Kit
