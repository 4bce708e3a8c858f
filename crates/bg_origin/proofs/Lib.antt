mod Staying
mod WorkedOrigins
